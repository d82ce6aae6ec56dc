-- `pass` and `peak` meet their contracts. A turn of the loop of `pass` prints the line of the pass and the text of a
-- peak (`Peaking`). At the last level the line of `peak` is its text. At another the line is followed by the texts of
-- the passes under it, and a turn of its loop prints the text of one (`Passing`). Assumes nothing.
use Rattle.std.proofs.Common.{◌≡◌, suc, ℕ, ◌-◌, ◌++◌, ◌∙◌, add-one, arith}
use Rattle.relief.specs.Outline.{peak_line, each}
use Rattle.lines.proofs.Printing.{Left, left-start, left-fits, left_step, left-fits-last, left-last}
use Rattle.kin.specs.Kin.{passes_in}
use Rattle.outline.specs.Inner.{peak_print}
use Rattle.outline.proofs.Prints.{peak-last, peak-first, pass_text}
use Rattle.outline.proofs.Prints.{passing-start, passing-turn, passing_step, passing-done}
use Rattle.outline.proofs.Prints.{peaking-line, peaking-turn, peaking-step, peaking-done}
use Rattle.outline.proofs.printers.+pass_peak.Given.{Over}
use Rattle.outline.proofs.printers.+pass_peak.Goals as goal
use Rattle.outline.proofs.printers.+pass_peak.Goals.{peak-After-get-level, peak-After-narrow-out}
use Rattle.outline.proofs.printers.+pass_peak.Goals.{peak-After-peak_line-2}

-- ---- a pass

pub pass-pass_line-requires : goal.pass-pass_line-requires
pass-pass_line-requires g t c =
    peaking-line g.met.S.Sink.laws c.loop-p.invariant c.in-Some.ensures.steps c.narrow-cell.ensures
    c.get-level.ensures

pub pass-peak-requires : goal.pass-peak-requires
pass-peak-requires g t c κs lives = (
  omega (arith, c.decreases),
  (
    lives,
    peaking-turn g.met.S.Sink.laws c.loop-p.invariant c.in-Some.ensures.steps c.narrow-cell.ensures
        c.get-level.ensures c.pass_line.ensures (add-one c.args.depth) c.requires.few,
  ),
)

pub pass-loop-p-preserved : goal.pass-loop-p-preserved
pass-loop-p-preserved g t c =
    peaking-step g.met.S.Sink.laws c.loop-p.invariant c.in-Some.ensures.steps c.narrow-cell.ensures
    c.get-level.ensures c.pass_line.ensures (add-one c.args.depth) c.peak.ensures

pub pass-returns : goal.pass-returns
pass-returns g t c = peaking-done g.met.S.Sink.laws c.loop-p.invariant c.in-None.ensures.steps.0

-- ---- a peak at the last level

last_line : (g : Over) (t : ℕ) (c : peak-After-narrow-out g t) →
    let a = c.args in
    peak_line a.depth c.narrow-cell.result c.get-level.result c.narrow-out.result
    ≡ peak_print a.work.now a.n a.left a.depth a.q
last_line g t c =
    peak-last c.args.work.now c.args.n c.args.depth c.narrow-cell.ensures c.get-level.ensures c.if-left-eq0.true
    (c.narrow-out.ensures ∙ c.count_children.ensures)

pub peak-peak_line-requires : goal.peak-peak_line-requires
peak-peak_line-requires g t c =
    rw (last_line g t (goal.at.peak-peak_line-requires g t c).After-narrow-out) c.requires.enough

pub peak-returns-then-left-eq0 : goal.peak-returns-then-left-eq0
peak-returns-then-left-eq0 g t c =
    let line = c.peak_line.ensures in
    rw (last_line g t (goal.at.peak-returns-then-left-eq0 g t c).After-narrow-out) at line

-- ---- a peak at another level

deeper : (left : ℕ) → (left ≡ 0 → ⊥) → left ≡ suc (left - 1)
deeper left h = omega arith

-- of the text its line is left, then its passes
line-left : (g : Over) (t : ℕ) (c : peak-After-get-level g t) → (c.args.left ≡ 0 → ⊥) →
    let a = c.args in
    Left g.S.Sink.fits g.S.Sink.put_gives a.sink.now (peak_print a.work.now a.n a.left a.depth a.q) a.sink.now
    (peak_line a.depth c.narrow-cell.result c.get-level.result 0
    ++ each (pass_text a.work.now a.n (a.left - 1) a.depth) (passes_in a.work.now a.n a.q))
line-left g t c more =
    let a = c.args in
    left-start g.met.S.Sink.laws c.requires.enough
    (peak-first a.work.now a.n a.depth c.narrow-cell.ensures c.get-level.ensures (a.left - 1) (deeper a.left more))

-- .. and after the line its passes
passes_left : (g : Over) (t : ℕ) (c : peak-After-peak_line-2 g t) →
    let a = c.args in
    Left g.S.Sink.fits g.S.Sink.put_gives a.sink.now (peak_print a.work.now a.n a.left a.depth a.q)
    c.peak_line-2.new.sink (each (pass_text a.work.now a.n (a.left - 1) a.depth) (passes_in a.work.now a.n a.q))
passes_left g t c =
    left_step g.met.S.Sink.laws (peak_line _ _ _ 0) _
    (line-left g t (goal.at.peak-After-peak_line-2 g t c).After-get-level c.if-left-eq0.false) c.peak_line-2.ensures

pub peak-peak_line-requires-2 : goal.peak-peak_line-requires-2
peak-peak_line-requires-2 g t c =
    left-fits g.met.S.Sink.laws (peak_line _ _ _ 0) _
    (line-left g t (goal.at.peak-peak_line-requires-2 g t c).After-get-level c.if-left-eq0.false)

pub peak-loop-x-init : goal.peak-loop-x-init
peak-loop-x-init g t c =
    passing-start g.met.S.Sink.laws (deeper c.args.left c.if-left-eq0.false) c.requires.linked
    (left-fits-last g.met.S.Sink.laws (passes_left g t (goal.at.peak-loop-x-init g t c).After-peak_line-2))
    (c.into_iter-x-iterator.ensures.into_iter_gives ∙ c.passes_of-x-items.ensures)

pub peak-pass-requires : goal.peak-pass-requires
peak-pass-requires g t c κs lives =
    let e = deeper c.args.left c.if-left-eq0.false in (
      omega (arith, c.decreases),
      (
        lives,
        passing-turn g.met.S.Sink.laws c.loop-x.invariant c.in-Some.ensures.steps (omega (arith, c.requires.few)),
      ),
    )

pub peak-loop-x-preserved : goal.peak-loop-x-preserved
peak-loop-x-preserved g t c =
    passing_step g.met.S.Sink.laws c.loop-x.invariant c.in-Some.ensures.steps c.pass.ensures

pub peak-returns : goal.peak-returns
peak-returns g t c =
    left-last g.met.S.Sink.laws (passes_left g t (goal.at.peak-returns g t c).After-peak_line-2)
    (passing-done g.met.S.Sink.laws c.loop-x.invariant c.in-None.ensures.steps.0)
