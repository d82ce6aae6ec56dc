-- So many records stand in the work area.
use Rattle.std.proofs.Common.{sym}
use Rattle.table.proofs.Laws.{records-length}
use Rattle.table.proofs.rows.ListedRecords.count.Goals as goal

pub returns : goal.returns
returns c = let s = c.args.self in sym (records-length s.work.now s.n s.count)
