use Rattle.std.proofs.Common.{sym}
use Rattle.layout.proofs.Rows.{heights-length}
use Rattle.layout.proofs.views.HeightsInHeights.count.Goals as goal

pub returns : goal.returns
returns c = let s = c.args.self in sym (heights-length s.bytes.now s.at s.count)
