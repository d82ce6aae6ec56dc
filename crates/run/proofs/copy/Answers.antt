-- A cell copied takes the copy of `i` cells to that of one more.
use Rattle.std.proofs.Common.{◌≡◌, ◌∙◌, sym, ap, ap₂, arith, ℤ, List, pos, ◌+◌, get_or, set}
use Rattle.std.proofs.Math.Seq.{paste, paste-zero, paste-suc}
use mir.Syntax.{w32}
use mir.ValLaws.{to_z-of_z}
use native.Mathlib.Numerals.{add-one}
use Rattle.run.proofs.copy.Goals as goal

pub loop-i-init : goal.loop-i-init
loop-i-init c = paste-zero c.args.grid.now c.args.at c.args.column.now

pub loop-i-preserved : goal.loop-i-preserved
loop-i-preserved c =
    let a = c.args in
    let i = c.loop-i.i in
    ap₂ (λ (g : List ℤ) (x : ℤ). set g (a.at + i) x) c.loop-i.invariant
    (to_z-of_z w32 (get_or a.column.now i (pos 0)) (record { sfits = c.grid-1.given }))
    ∙ paste-suc a.grid.now a.at a.column.now i (pos 0) (omega arith) c.loop-i-test.true
    ∙ ap (paste a.grid.now a.at a.column.now) (sym (add-one i))
