-- The file has the records that its header tells of, and the table has room for them.
use Rattle.std.proofs.Common.{ℕ, List, ◌∙◌, ◌+◌, ◌++◌, ap₂, arith, length, drop}
use Rattle.record.specs.declared.Peak.{Peak}
use Rattle.layout.specs.Layout.{peaks_from}
use Rattle.layout.proofs.Rows.{peaks-length}
use Rattle.reader.proofs.ReadAnswer.{read-fits, read-peaks, read-room, read-records}
use Rattle.runfile.proofs.read.Goals as goal

pub invariant_of-records : goal.invariant_of-records
invariant_of-records c =
    let j = c.in_ok-run.ensures.answer in
    record {
      fits =
          read-fits c.args.file.now (length c.args.heights.now) (length c.args.table.now) j.unsound j.answered
          c.cells.ensures c.index.ensures;
    }

pub take-requires : goal.take-requires
take-requires c =
    let j = c.in_ok-run.ensures.answer in
    let room =
    read-room c.args.file.now (length c.args.heights.now) (length c.args.table.now) j.unsound j.answered
    c.cells.ensures c.index.ensures in
    omega (arith, room, peaks-length c.args.file.now (6 + c.cells.result) c.index.result)

pub returns : goal.returns
returns c =
    let j = c.in_ok-run.ensures.answer in
    let heights = length c.args.heights.now in
    let room = length c.args.table.now in
    let row = peaks_from c.args.file.now (6 + c.cells.result) c.index.result in
    let count =
    peaks-length c.args.file.now (6 + c.cells.result) c.index.result ∙ c.index.ensures
    ∙ read-peaks c.args.file.now heights room j.unsound j.answered in
    let same = read-records c.args.file.now heights room j.unsound j.answered c.cells.ensures c.index.ensures in
    record {
      answer = j;
      heights = c.in_ok-run.ensures.heights;
      table =
          c.take.ensures
          ∙ ap₂ (λ (ps : List Peak) (m : ℕ). ps ++ drop m c.args.table.now) same count;
    }
