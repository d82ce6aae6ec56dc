-- Each call of itself goes a level further down, and none beyond the last.
use Rattle.std.proofs.Common.{◌-◌}
use Rattle.second_outlines.proofs.outlining.Outline.+write_under.Given as goal

abbrev pub decreases-write_under : goal.decreases-write_under
decreases-write_under l = l.self.now.levels - l.level
