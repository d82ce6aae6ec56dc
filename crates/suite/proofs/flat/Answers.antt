-- A call that a test refuses changes nothing, and one that passes them is a list's.
use Rattle.std.proofs.Common.{ℕ, ◌/◌, refl, sym, subst, length}
use Rattle.std.proofs.lemmas.Result.{err_from_is_err_and}
use Rattle.relief.specs.Plane.{plane_of}
use Rattle.survey.proofs.ListCalls.{list-refused}
use Rattle.layout.specs.Layout.{heights_from}
use Rattle.layout.proofs.Rows.{heights-length}
use Rattle.survey.specs.Lists.{Listable}
use Rattle.suite.specs.Promises.{suite_tests}
use Rattle.suite.proofs.Answers.{bytes-listable}
use Rattle.suite.proofs.flat.Goals as goal

pub returns-in_err-check : goal.returns-in_err-check
returns-in_err-check c =
    let a = c.args in
    let p = err_from_is_err_and c.from_residual.result c.from_residual.ensures.1 in
    rw (p.1, p.2)
    (list-refused (suite_tests a.rows (length a.heights.now) (length a.work.now)) (plane_of a.rows) a.threshold a.room
    (heights_from a.heights.now 0 (length a.heights.now / 4)) (sym c.in_err-check.ensures) refl)

pub made-requires : goal.made-requires
made-requires c =
    let a = c.args in
    let listable = bytes-listable a.rows (length a.heights.now) (length a.work.now) (sym c.in_ok-check.ensures) in
    subst (λ (n : ℕ). Listable a.rows n (length a.work.now))
    (sym (heights-length a.heights.now 0 (length a.heights.now / 4))) listable

pub returns : goal.returns
returns c =
    let a = c.args in
    let made =
    c.made.ensures (suite_tests a.rows (length a.heights.now) (length a.work.now)) (sym c.in_ok-check.ensures) in
    rw (heights-length a.heights.now 0 (length a.heights.now / 4)) at made
