-- `outline`: a call that a test refuses changes nothing. Where none does, what linking leaves can be printed, and what
-- is printed is the outline. Of blank cells alone nothing would be (`printed-blank`). Assumes nothing.
use mathlib.Core.Path.{refl, sym, ◌∙◌}
use lib.ListN.{length}
use Rattle.std.proofs.lemmas.Result.{err_from_is_err_and}
use Rattle.outline.specs.Inner.{GoodOutline}
use Rattle.outline.proofs.Checks.{outline-passed}
use Rattle.outline.proofs.Answers.{prepared-printable, printed-blank, outline-refused, outline-made}
use Rattle.outline.proofs.outline.Goals as goal
use Rattle.outline.proofs.outline.Goals.{After-prepare}

pub returns-in_err-check : goal.returns-in_err-check
returns-in_err-check c =
    let a = c.args in
    let p = err_from_is_err_and c.from_residual.result c.from_residual.ensures.1 in
    rw (p.1, p.2)
    (outline-refused a.run a.grid.now a.levels a.work.now a.text.now (sym c.check.ensures ∙ c.in_err-check.was) refl)

-- the tests have passed
good : (c : After-prepare) → let a = c.args in GoodOutline a.run (length a.grid.now) a.levels (length a.work.now)
good c =
    let a = c.args in
    outline-passed a.run (length a.grid.now) a.levels (length a.work.now) (sym c.check.ensures ∙ c.in_ok-check.was)

pub prepare-requires : goal.prepare-requires
prepare-requires c =
    let a = c.args in
    (outline-passed a.run (length a.grid.now) a.levels (length a.work.now)
    (sym c.check.ensures ∙ c.in_ok-check.was)).linkable

pub returns-then-prepare-eq0 : goal.returns-then-prepare-eq0
returns-then-prepare-eq0 c =
    let a = c.args in
    outline-made a.run a.grid.now a.levels a.work.now a.text.now
    (good (goal.at.returns-then-prepare-eq0 c).After-prepare) refl c.prepare.ensures
    (printed-blank a.levels c.prepare.ensures c.if-prepare-eq0.true)

pub print-requires : goal.print-requires
print-requires c =
    prepared-printable (good (goal.at.print-requires c).After-prepare) c.prepare.ensures c.held_cells.ensures

pub returns : goal.returns
returns c =
    let a = c.args in
    outline-made a.run a.grid.now a.levels a.work.now a.text.now (good (goal.at.returns c).After-prepare)
    c.held_cells.ensures c.prepare.ensures c.print.ensures
