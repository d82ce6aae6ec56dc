-- `height`: a number, or a sign and then a number. Assumes nothing.
use Rattle.std.proofs.Common.{ℕ, List, [], ◌∷◌, ◌++◌, ◌-◌, ◌<◌, length, ap}
use Rattle.relief.specs.Outline.{decimal_of, sign_of}
use Rattle.relief.specs.Heights.{height_of}
use Rattle.lines.specs.Sinks.{IsSink}
use Rattle.lines.proofs.Decimal.{sign_high, sign_low}
use Rattle.lines.proofs.Printing.{Left, left-start, left-fits, left_step, left-fits-last, left-last}
use Rattle.lines.proofs.pieces.height.Goals as goal

-- of a negative height the sign is left, then the digits
sign-left : {S : Type 0} {fits : S → ℕ → Type 0} {gives : S → List ℕ → S → Type 0} → IsSink fits gives
    → {s : S} (level end : ℕ) → level < 2147483648 → fits s (length (sign_of (height_of level) ++ end ∷ []))
    → Left fits gives s (sign_of (height_of level) ++ end ∷ []) s
    ((45 ∷ []) ++ (decimal_of (2147483648 - level) ++ end ∷ []))
sign-left sink level end l f = left-start sink f (ap (λ (t : List ℕ). t ++ end ∷ []) (sign_low level l))

pub number-requires : goal.number-requires
number-requires g c = rw (sign_high c.args.level c.if-level-ge-ZERO.true) at c.requires

pub put-requires : goal.put-requires
put-requires g c =
    let sink = g.met.S.Sink.laws in
    left-fits sink (45 ∷ []) _ (sign-left sink c.args.level c.args.end c.if-level-ge-ZERO.false c.requires)

pub number-requires-else-level-ge-ZERO : goal.number-requires-else-level-ge-ZERO
number-requires-else-level-ge-ZERO g c =
    let sink = g.met.S.Sink.laws in
    left-fits-last sink
    (left_step sink (45 ∷ []) _ (sign-left sink c.args.level c.args.end c.if-level-ge-ZERO.false c.requires)
    c.put.ensures)

pub returns-then-level-ge-ZERO : goal.returns-then-level-ge-ZERO
returns-then-level-ge-ZERO g c = rw (sign_high c.args.level c.if-level-ge-ZERO.true) c.number.ensures

pub returns-else-level-ge-ZERO : goal.returns-else-level-ge-ZERO
returns-else-level-ge-ZERO g c =
    let sink = g.met.S.Sink.laws in
    left-last sink
    (left_step sink (45 ∷ []) _ (sign-left sink c.args.level c.args.end c.if-level-ge-ZERO.false c.requires)
    c.put.ensures) c.number-else-level-ge-ZERO.ensures
