-- Behind the tests of the grid the cells are few, and behind 12 so are the records.
use Rattle.std.proofs.Common.{ℕ, ◌≤◌, ◌≡◌, ◌∙◌, [], ◌∷◌, sym, ap, subst, arith}
use Rattle.std.proofs.lemmas.Result.{err_from_is_err_and}
use borrow.Author.Tests.{ltb-true, ltb-false}
use Rattle.record.specs.Refusals.{granted, told_by}
use Rattle.sound.specs.Inner.{index_of}
use Rattle.layout.specs.Layout.{total_of}
use Rattle.layout.specs.Promises.{write_tests}
use Rattle.writer.specs.Inner.{Few}
use Rattle.writer.proofs.WriteAnswer.{grid-known, grid-refused, unsound-refused, room-refused, written-bytes}
use Rattle.writer.proofs.plan.Goals as goal

pub returns-in_err-check_grid : goal.returns-in_err-check_grid
returns-in_err-check_grid c =
    let p = err_from_is_err_and c.from_residual.result c.from_residual.ensures.1 in
    rw (p.1, p.2)
    (grid-refused c.args.rows c.args.cells c.args.n (index_of c.args.unsound c.args.n) c.args.room
    (granted (total_of c.args.cells c.args.n ∷ []))
    (sym c.in_err-check_grid.ensures))

pub narrow-requires : goal.narrow-requires
narrow-requires c =
    let g = grid-known c.args.rows c.args.cells (sym c.in_ok-check_grid.ensures) in
    let few = subst (Few c.args.cells c.args.n) c.in-Some.is c.requires in
    omega (arith, g.fit, few.1)

pub returns-in-Some : goal.returns-in-Some
returns-in-Some c =
    let g = grid-known c.args.rows c.args.cells (sym c.in_ok-check_grid.ensures) in
    let few = subst (Few c.args.cells c.args.n) c.in-Some.is c.requires in
    let told = granted (total_of c.args.cells c.args.n ∷ []) in
    rw c.narrow.ensures
    (unsound-refused c.args.rows c.args.cells c.args.n c.in-Some.index c.args.room g told few.0
    ∙ ap (λ (k : ℕ). told_by (write_tests c.args.rows c.args.cells c.args.n k c.args.room) told)
    (sym (ap (λ u. index_of u c.args.n) c.in-Some.is)))

pub overflow_mul-total : goal.overflow_mul-total
overflow_mul-total c =
    let g = grid-known c.args.rows c.args.cells (sym c.in_ok-check_grid.ensures) in
    record { fits = omega (arith, g.fit) }

pub overflow_add-total : goal.overflow_add-total
overflow_add-total c =
    let g = grid-known c.args.rows c.args.cells (sym c.in_ok-check_grid.ensures) in
    record { fits = omega (arith, g.fit) }

pub overflow_mul-total-2 : goal.overflow_mul-total-2
overflow_mul-total-2 c =
    let g = grid-known c.args.rows c.args.cells (sym c.in_ok-check_grid.ensures) in
    let few : c.args.n ≤ c.args.cells = subst (Few c.args.cells c.args.n) c.in_default.is c.requires in
    record { fits = omega (arith, g.fit) }

pub overflow_add-total-2 : goal.overflow_add-total-2
overflow_add-total-2 c =
    let g = grid-known c.args.rows c.args.cells (sym c.in_ok-check_grid.ensures) in
    let few : c.args.n ≤ c.args.cells = subst (Few c.args.cells c.args.n) c.in_default.is c.requires in
    record { fits = omega (arith, g.fit) }

pub narrow-needed-requires : goal.narrow-needed-requires
narrow-needed-requires c =
    let g = grid-known c.args.rows c.args.cells (sym c.in_ok-check_grid.ensures) in
    let few : c.args.n ≤ c.args.cells = subst (Few c.args.cells c.args.n) c.in_default.is c.requires in
    omega (arith, g.fit)

pub returns-in_err-refuse_if : goal.returns-in_err-refuse_if
returns-in_err-refuse_if c =
    let g = grid-known c.args.rows c.args.cells (sym c.in_ok-check_grid.ensures) in
    let p = err_from_is_err_and c.from_residual-in_err-refuse_if.result c.from_residual-in_err-refuse_if.ensures.1 in
    let none : index_of c.args.unsound c.args.n ≡ c.args.n = ap (λ u. index_of u c.args.n) c.in_default.is in
    rw (p.1, p.2, c.in_err-refuse_if.ensures.0, c.narrow-needed.ensures, none)
    (room-refused c.args.rows c.args.cells c.args.n c.args.n c.args.room g (omega arith) _
    (ltb-true _ _ c.in_err-refuse_if.ensures.1))

pub returns : goal.returns
returns c =
    let g = grid-known c.args.rows c.args.cells (sym c.in_ok-check_grid.ensures) in
    let none : index_of c.args.unsound c.args.n ≡ c.args.n = ap (λ u. index_of u c.args.n) c.in_default.is in
    rw (c.narrow-needed.ensures, none)
    (written-bytes c.args.rows c.args.cells c.args.n c.args.n c.args.room g (omega arith)
    (ltb-false _ _ c.in_ok-refuse_if.ensures))
