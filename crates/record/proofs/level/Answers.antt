-- The sum of the widened height and 2^31 is its level, a natural number below 2^32: the cast to 32 bits keeps it.
use mathlib.Core.Path.{◌≡◌}
use lib.IntN.{ℤ, pos, ◌+ℤ◌}
use mir.Syntax.{w32, w64}
use mir.Val.{SFits, to_z, of_z}
use Rattle.relief.specs.Heights.{level_of}
use Rattle.scale.proofs.Levels.{level-raise, level-below}
use Rattle.record.proofs.Widths.{wide_read, natural-read}
use Rattle.record.proofs.level.Goals as goal

raised : {h : ℤ} → SFits w32 h → to_z w64 (of_z w64 (to_z w32 (of_z w32 h))) +ℤ pos 2147483648 ≡ pos (level_of h)
raised f = rw (wide_read f) (level-raise f)

pub returns : goal.returns
returns c = natural-read (raised c.ranges.height) (level-below c.ranges.height)
