-- `same_cells` meets its contract. At a reached cell the row has to go on with it; any other is passed. Assumes
-- nothing.
use Rattle.std.proofs.Common.{◌≡◌, sym, ◌∙◌, ap, arith, ℕ, ◌∷◌}
use Rattle.std.proofs.lemmas.Bool.{not-true, not-false}
use Rattle.relief.specs.Inner.{row_below}
use Rattle.relief.proofs.Tests.{refuted}
use Rattle.audit.proofs.IslandRows.{row-skip, row-take, row-next, next-is, next-not, row-ended}
use Rattle.audit.proofs.same_cells.Goals as goal
use Rattle.audit.proofs.same_cells.Goals.{else-is_reached-via-then-is_reached+else-ne}
use Rattle.audit.proofs.same_cells.Goals.{else-is_reached-via-else-is_reached}

pub loop-c-init : goal.loop-c-init
unfolding row_below
loop-c-init c = sym c.iter-rest.ensures.rest

pub loop-c-preserved : goal.loop-c-preserved
loop-c-preserved c =
    let told = sym c.is_reached.ensures in
    elim c.else-is_reached.branch [
      | else-is_reached-via-then-is_reached+else-ne w ↦
          rw w.rest-is (row-take _ _ _ c.loop-c.invariant (told ∙ w.if-is_reached.true)
          (rw (← w.narrow.ensures) (next-is _ _ _ _ w.next.ensures.steps
          (not-false _ (sym w.ne.ensures ∙ w.if-ne.false)))))
      | else-is_reached-via-else-is_reached w ↦
          rw w.rest-is (row-skip _ _ _ c.loop-c.invariant (told ∙ w.if-is_reached.false))
    ]

pub returns-then-ne : goal.returns-then-ne
returns-then-ne c =
    refuted (λ e.
    let (left, q) = row-next _ _ _ c.loop-c.invariant c.loop-c-test.true
    (sym c.is_reached.ensures ∙ c.if-is_reached.true) e in
    next-not _ _ _ _ c.next.ensures.steps (not-true _ (sym c.ne.ensures ∙ c.if-ne.true))
    (q ∙ ap (λ (d : ℕ). d ∷ left) (sym c.narrow.ensures)))

pub returns : goal.returns
returns c =
    let e : c.loop-c.c ≡ c.args.n = omega (arith, c.loop-c-test.false, c.loop-c.auto.c-end) in
    row-ended _ c.args.n _ _ c.next-2.result c.is_none.result (rw e at c.loop-c.invariant) c.next-2.ensures.steps
    c.is_none.ensures
