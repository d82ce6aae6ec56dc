-- The file has the records that its header tells of, and the table has room for them.
use Rattle.std.proofs.Common.{ℕ, List, ◌∙◌, ◌+◌, ◌*◌, ◌/◌, ◌++◌, ap₂, refl, arith, length, drop}
use Rattle.record.specs.declared.Peak.{Peak}
use Rattle.layout.specs.Layout.{bytes_of, all_fields_of, peaks_from}
use Rattle.layout.proofs.Rows.{peaks-length}
use Rattle.layout.proofs.Laid.{laid-front}
use Rattle.reader.proofs.ReadAnswer.{read-fits, read-room, read-records}
use Rattle.meter_files.proofs.read.Goals as goal

pub invariant_of-records : goal.invariant_of-records
invariant_of-records c =
    let j = c.in_ok-run.ensures.answer in
    record {
      fits =
          read-fits c.args.file.now (length c.args.heights.now) (length c.args.table.now / 16) j.unsound j.answered
          c.cells.ensures c.index.ensures;
    }

pub lay_records-requires : goal.lay_records-requires
lay_records-requires c =
    let j = c.in_ok-run.ensures.answer in
    let room =
    read-room c.args.file.now (length c.args.heights.now) (length c.args.table.now / 16) j.unsound j.answered
    c.cells.ensures c.index.ensures in
    omega (arith, room, peaks-length c.args.file.now (6 + c.cells.result) c.index.result)

pub returns : goal.returns
returns c =
    let j = c.in_ok-run.ensures.answer in
    let row = peaks_from c.args.file.now (6 + c.cells.result) c.index.result in
    let same =
    read-records c.args.file.now (length c.args.heights.now) (length c.args.table.now / 16) j.unsound j.answered
    c.cells.ensures c.index.ensures in
    record {
      back = _;
      read = j;
      counted = refl;
      heights = c.in_ok-run.ensures.heights;
      filled =
          c.lay_records.ensures ∙ laid-front c.args.table.now row
          ∙ ap₂ (λ (ps : List Peak) (m : ℕ). bytes_of (all_fields_of ps) ++ drop (16 * m) c.args.table.now) same
          (peaks-length c.args.file.now (6 + c.cells.result) c.index.result ∙ c.index.ensures);
    }
