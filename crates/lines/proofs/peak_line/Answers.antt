-- `peak_line`: the line is what both lines begin with, and a number. Assumes nothing.
use Rattle.std.proofs.Common.{ℕ, List, [], ◌∷◌, ◌++◌, length, append_assoc}
use Rattle.relief.specs.Outline.{decimal_of, peak_line}
use Rattle.lines.specs.Lines.{front_of}
use Rattle.lines.specs.Sinks.{IsSink}
use Rattle.lines.proofs.Printing.{Left, left-start, left-fits, left_step, left-fits-last, left-last}
use Rattle.lines.proofs.peak_line.Goals as goal

abbrev peak-front : ℕ → ℕ → ℕ → List ℕ
peak-front depth cell level = front_of depth (112 ∷ 101 ∷ 97 ∷ 107 ∷ 32 ∷ []) cell level 32

line-left : {S : Type 0} {fits : S → ℕ → Type 0} {gives : S → List ℕ → S → Type 0} → IsSink fits gives
    → {s : S} (depth cell level out : ℕ) → fits s (length (peak_line depth cell level out))
    → Left fits gives s (peak_line depth cell level out) s (peak-front depth cell level ++ (decimal_of out ++ 10 ∷ []))
unfolding peak_line
line-left sink depth cell level out f = left-start sink f (simp append_assoc)

pub front-requires : goal.front-requires
front-requires g c =
    let sink = g.met.S.Sink.laws in
    let a = c.args in
    left-fits sink (peak-front a.depth a.cell a.level) _ (line-left sink a.depth a.cell a.level a.out c.requires)

pub number-requires : goal.number-requires
number-requires g c =
    let sink = g.met.S.Sink.laws in
    let a = c.args in
    left-fits-last sink
    (left_step sink (peak-front a.depth a.cell a.level) _ (line-left sink a.depth a.cell a.level a.out c.requires)
    c.front.ensures)

pub returns : goal.returns
returns g c =
    let sink = g.met.S.Sink.laws in
    let a = c.args in
    left-last sink
    (left_step sink (peak-front a.depth a.cell a.level) _ (line-left sink a.depth a.cell a.level a.out c.requires)
    c.front.ensures) c.number.ensures
