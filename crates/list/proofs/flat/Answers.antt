-- A call that a test refuses changes nothing.
use mathlib.Core.Path.{refl, sym}
use lib.ListN.{length}
use Rattle.std.proofs.lemmas.Result.{err_from_is_err_and}
use Rattle.relief.specs.Plane.{plane_of}
use Rattle.heights.specs.Grid.{grid_tests}
use Rattle.heights.proofs.Answers.{grid-good}
use Rattle.survey.proofs.ListCalls.{list-refused}
use Rattle.list.proofs.flat.Goals as goal

pub returns-in_err-check : goal.returns-in_err-check
returns-in_err-check c =
    let a = c.args in
    let p = err_from_is_err_and c.from_residual.result c.from_residual.ensures.1 in
    rw (p.1, p.2)
    (list-refused (grid_tests a.rows (length a.heights.now) (length a.work.now)) (plane_of a.rows) a.threshold a.room
    a.heights.now (sym c.in_err-check.ensures) refl)

pub made-requires : goal.made-requires
made-requires c =
    let a = c.args in
    let g = grid-good a.rows (length a.heights.now) (length a.work.now) (sym c.in_ok-check.ensures) in
    record { some = g.some; few = g.few; fits = g.fits; space = g.space }

pub returns : goal.returns
returns c =
    let a = c.args in
    c.made.ensures (grid_tests a.rows (length a.heights.now) (length a.work.now)) (sym c.in_ok-check.ensures)
