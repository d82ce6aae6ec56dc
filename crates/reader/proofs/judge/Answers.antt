-- Behind the tests of the header the file has all its records, so that the first unsound one can be looked for.
use Rattle.std.proofs.Common.{◌*◌, ◌∙◌, sym, ap₂, arith}
use Rattle.std.proofs.lemmas.Result.{err_from_is_err_and}
use Rattle.sound.proofs.Scans.{first-few}
use Rattle.layout.specs.Layout.{cells_in}
use Rattle.layout.proofs.Rows.{heights-length}
use Rattle.reader.proofs.ReadAnswer.{header_refused, unsound-refused, room-refused, table-refused, run-read}
use Rattle.reader.proofs.Header.{header-whole}
use Rattle.reader.proofs.ReadAnswer.{found-one, found-none}
use borrow.Author.Tests.{ltb-true, ltb-false}
use Rattle.reader.proofs.judge.Goals as goal

pub returns-in_err-check_header : goal.returns-in_err-check_header
returns-in_err-check_header c =
    let p = err_from_is_err_and c.from_residual.result c.from_residual.ensures.1 in
    rw (p.1, p.2) (header_refused c.args.file.now c.args.heights c.args.table (sym c.in_err-check_header.ensures))

pub get-requires : goal.get-requires
get-requires c = omega (arith, (header-whole c.args.file.now (sym c.in_ok-check_header.ensures)).long)

pub get-requires-2 : goal.get-requires-2
get-requires-2 c = omega (arith, (header-whole c.args.file.now (sym c.in_ok-check_header.ensures)).long)

pub get-requires-3 : goal.get-requires-3
get-requires-3 c = omega (arith, (header-whole c.args.file.now (sym c.in_ok-check_header.ensures)).long)

pub invariant_of-grid : goal.invariant_of-grid
invariant_of-grid c =
    let w = header-whole c.args.file.now (sym c.in_ok-check_header.ensures) in
    let cells = c.cells-cells.ensures ∙ ap₂ ◌*◌ c.get.ensures c.get-2.ensures in
    record { fits = omega (arith, w.total, w.counted.total, cells) }

pub invariant_of-records : goal.invariant_of-records
invariant_of-records c =
    let w = header-whole c.args.file.now (sym c.in_ok-check_header.ensures) in
    let cells = c.cells-cells.ensures ∙ ap₂ ◌*◌ c.get.ensures c.get-2.ensures in
    record { fits = omega (arith, w.total, w.counted.total, cells, c.index-n.ensures, c.get-3.ensures) }

pub narrow-requires : goal.narrow-requires
narrow-requires c =
    let w = header-whole c.args.file.now (sym c.in_ok-check_header.ensures) in
    let cells = c.cells-cells.ensures ∙ ap₂ ◌*◌ c.get.ensures c.get-2.ensures in
    let found = found-one c.args.file.now cells (c.index-n.ensures ∙ c.get-3.ensures) c.in-Some.ensures in
    omega (arith, first-few found.1, heights-length c.args.file.now 6 (cells_in c.args.file.now), w.fit)

pub returns-in-Some : goal.returns-in-Some
returns-in-Some c =
    let head = sym c.in_ok-check_header.ensures in
    let cells = c.cells-cells.ensures ∙ ap₂ ◌*◌ c.get.ensures c.get-2.ensures in
    let found = found-one c.args.file.now cells (c.index-n.ensures ∙ c.get-3.ensures) c.in-Some.ensures in
    rw c.narrow.ensures
    (unsound-refused c.args.file.now c.args.heights c.args.table c.in-Some.index head found.1 found.0)

pub narrow-needed-requires : goal.narrow-needed-requires
narrow-needed-requires c =
    let w = header-whole c.args.file.now (sym c.in_ok-check_header.ensures) in
    let cells = c.cells-cells.ensures ∙ ap₂ ◌*◌ c.get.ensures c.get-2.ensures in
    omega (arith, w.fit, cells)

pub returns-in_err-refuse_if : goal.returns-in_err-refuse_if
returns-in_err-refuse_if c =
    let p = err_from_is_err_and c.from_residual-in_err-refuse_if.result c.from_residual-in_err-refuse_if.ensures.1 in
    let head = sym c.in_ok-check_header.ensures in
    let cells = c.cells-cells.ensures ∙ ap₂ ◌*◌ c.get.ensures c.get-2.ensures in
    let peaks = c.index-n.ensures ∙ c.get-3.ensures in
    let first = found-none c.args.file.now cells peaks c.first_unsound.result c.in_default.is c.first_unsound.ensures in
    let short = ltb-true _ _ c.in_err-refuse_if.ensures.1 in
    rw (p.1, p.2, c.in_err-refuse_if.ensures.0, c.narrow-needed.ensures, cells)
    (room-refused c.args.file.now c.args.heights c.args.table _ head first (omega arith) (omega (arith, short, cells)))

pub returns-in_err-refuse_if-2 : goal.returns-in_err-refuse_if-2
returns-in_err-refuse_if-2 c =
    let p = err_from_is_err_and c.from_residual-in_err-refuse_if-2.result
    c.from_residual-in_err-refuse_if-2.ensures.1 in
    let head = sym c.in_ok-check_header.ensures in
    let cells = c.cells-cells.ensures ∙ ap₂ ◌*◌ c.get.ensures c.get-2.ensures in
    let peaks = c.index-n.ensures ∙ c.get-3.ensures in
    let first = found-none c.args.file.now cells peaks c.first_unsound.result c.in_default.is c.first_unsound.ensures in
    let room = ltb-false _ _ c.in_ok-refuse_if.ensures in
    let short = ltb-true _ _ c.in_err-refuse_if-2.ensures.1 in
    rw (p.1, p.2, c.in_err-refuse_if-2.ensures.0, c.get-3.ensures)
    (table-refused c.args.file.now c.args.heights c.args.table _ head first (omega arith) (omega (arith, room, cells))
    (omega (arith, short, peaks)))

pub returns : goal.returns
returns c =
    let w = header-whole c.args.file.now (sym c.in_ok-check_header.ensures) in
    let cells = c.cells-cells.ensures ∙ ap₂ ◌*◌ c.get.ensures c.get-2.ensures in
    let peaks = c.index-n.ensures ∙ c.get-3.ensures in
    let first = found-none c.args.file.now cells peaks c.first_unsound.result c.in_default.is c.first_unsound.ensures in
    let room = ltb-false _ _ c.in_ok-refuse_if.ensures in
    let enough = ltb-false _ _ c.in_ok-refuse_if-2.ensures in
    run-read c.args.file.now c.args.heights c.args.table _ first
    (record {
      whole = w;
      sound = omega arith;
      room = omega (arith, room, cells);
      table-room = omega (arith, enough, peaks);
    })
    c.get.ensures c.get-2.ensures c.get-3.ensures
