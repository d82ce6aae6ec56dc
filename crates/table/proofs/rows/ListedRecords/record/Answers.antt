-- The i-th record is that of the i-th cell of the order, which the work area has.
use Rattle.std.proofs.Common.{sym, arith, ◌∙◌}
use Rattle.relief.specs.Heights.{BLANK}
use Rattle.record.specs.Records.{without_key}
use Rattle.table.proofs.Grows.{grows_at}
use Rattle.table.proofs.Laws.{records-grow, records-length, standing-pointed}
use Rattle.table.proofs.rows.ListedRecords.record.Goals as goal

pub record_at-requires : goal.record_at-requires
record_at-requires c =
    let s = c.args.self in
    standing-pointed s.standing c.args.i (omega (arith, records-length s.work.now s.n s.count))

pub returns : goal.returns
returns c =
    let s = c.args.self in
    c.record_at.ensures
    ∙ sym (grows_at (records-grow s.work.now s.n s.count) (without_key 0 BLANK) s.count c.args.i (omega arith)
    (omega (arith, records-length s.work.now s.n s.count)))
