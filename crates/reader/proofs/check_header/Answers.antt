-- Behind the tests of the grid the header is there and the cells are few; the other two tests are those behind them.
use Rattle.std.specs.Prelude.{Ok, Err, cond, not, eqb, ℕ, length}
use Rattle.record.specs.declared.Refusal.TheVariants.{FileLength}
use Rattle.std.proofs.Common.{◌≡◌, ◌*◌, ◌∙◌, sym, ap, ap₂, arith, true, false}
use Rattle.std.proofs.lemmas.Result.{err_from_is_err_and}
use Rattle.layout.specs.Layout.{cells_in, peaks_in}
use Rattle.layout.specs.Promises.{miscounted}
use Rattle.reader.proofs.Header.{grid-known, header-early, header-counts, header-last, test-told}
use Rattle.reader.proofs.check_header.Goals as goal

pub returns-in_err-check_file_grid : goal.returns-in_err-check_file_grid
returns-in_err-check_file_grid c =
    let p = err_from_is_err_and c.from_residual.result c.from_residual.ensures.1 in
    rw (p.1, p.2) (header-early c.args.file.now (sym c.in_err-check_file_grid.ensures))

pub get-requires : goal.get-requires
get-requires c = omega (arith, (grid-known c.args.file.now (sym c.in_ok-check_file_grid.ensures)).0)

pub get-requires-2 : goal.get-requires-2
get-requires-2 c = omega (arith, (grid-known c.args.file.now (sym c.in_ok-check_file_grid.ensures)).0)

pub get-requires-3 : goal.get-requires-3
get-requires-3 c = omega (arith, (grid-known c.args.file.now (sym c.in_ok-check_file_grid.ensures)).0)

pub is_miscounted-wrong-requires : goal.is_miscounted-wrong-requires
is_miscounted-wrong-requires c =
    let known = grid-known c.args.file.now (sym c.in_ok-check_file_grid.ensures) in
    let cells = c.times-cells.ensures.0 ∙ ap₂ ◌*◌ c.get.ensures c.get-2.ensures in
    (known.0, (omega (arith, known.1, cells), omega (arith, c.index.ensures, c.get-3.type_inv)))

pub get-requires-4 : goal.get-requires-4
get-requires-4 c = (grid-known c.args.file.now (sym c.in_ok-check_file_grid.ensures)).0

pub returns-in_err-refuse_if : goal.returns-in_err-refuse_if
returns-in_err-refuse_if c =
    let p = err_from_is_err_and c.from_residual-in_err-refuse_if.result c.from_residual-in_err-refuse_if.ensures.1 in
    let cells = c.times-cells.ensures.0 ∙ ap₂ ◌*◌ c.get.ensures c.get-2.ensures in
    let wrong : miscounted c.args.file.now (cells_in c.args.file.now) (peaks_in c.args.file.now) ≡ true =
    sym (c.is_miscounted-wrong.ensures
    ∙ ap₂ (miscounted c.args.file.now) cells (c.index.ensures ∙ c.get-3.ensures))
    ∙ c.in_err-refuse_if.ensures.1 in
    rw (p.1, p.2, c.in_err-refuse_if.ensures.0)
    (header-counts c.args.file.now (sym c.in_ok-check_file_grid.ensures) wrong)

pub returns : goal.returns
returns c =
    let cells = c.times-cells.ensures.0 ∙ ap₂ ◌*◌ c.get.ensures c.get-2.ensures in
    let right : miscounted c.args.file.now (cells_in c.args.file.now) (peaks_in c.args.file.now) ≡ false =
    sym (c.is_miscounted-wrong.ensures
    ∙ ap₂ (miscounted c.args.file.now) cells (c.index.ensures ∙ c.get-3.ensures))
    ∙ c.in_ok-refuse_if.ensures in
    header-last c.args.file.now (sym c.in_ok-check_file_grid.ensures) right
    (test-told _ _ _ c.refuse_if-2.ensures
    ∙ ap (λ (n : ℕ). cond (not (eqb (length c.args.file.now) n)) (Err FileLength) (Ok tt))
    (c.index-total.ensures ∙ c.get-4.ensures))
