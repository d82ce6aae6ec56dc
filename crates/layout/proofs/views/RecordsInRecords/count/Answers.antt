use Rattle.std.proofs.Common.{sym}
use Rattle.layout.proofs.Rows.{peaks-length}
use Rattle.layout.proofs.views.RecordsInRecords.count.Goals as goal

pub returns : goal.returns
returns c = let s = c.args.self in sym (peaks-length s.bytes.now s.at s.count)
