-- Where the answer is a run, the file has its heights and the lent row has room for them.
use Rattle.std.proofs.Common.{ℕ, ◌∙◌, ◌++◌, ap, arith, length, drop}
use Rattle.layout.specs.Layout.{heights_in}
use Rattle.reader.proofs.ReadAnswer.{read-readable, read-cells}
use Rattle.reader.proofs.take_grid.Goals as goal

pub take_heights-requires : goal.take_heights-requires
take_heights-requires c =
    let j = c.in_ok-run.ensures in
    let r = read-readable c.args.file.now (length c.args.heights.now) c.args.table j.unsound j.answered in
    let cells = c.cells.ensures
    ∙ read-cells c.args.file.now (length c.args.heights.now) c.args.table j.unsound j.answered in
    (omega (arith, r.whole.total, r.whole.counted.total, cells), omega (arith, r.room, cells))

pub returns : goal.returns
returns c =
    let j = c.in_ok-run.ensures in
    let cells = c.cells.ensures
    ∙ read-cells c.args.file.now (length c.args.heights.now) c.args.table j.unsound j.answered in
    record {
      answer = j;
      heights =
          c.take_heights.ensures ∙ ap (λ (n : ℕ). heights_in c.args.file.now n ++ drop n c.args.heights.now) cells;
    }
