-- The bits are those that a cast keeps.
use Rattle.std.proofs.Common.{◌∙◌, ap, w32, of_z}
use mir.ValLaws.{to_z-of_z}
use Rattle.layout.proofs.Complement.{bits-cast}
use Rattle.layout.proofs.numbers.bits.Goals as goal

pub returns : goal.returns
returns c =
    c.cast_unsigned.ensures ∙ ap (of_z w32) (to_z-of_z w32 c.args.height c.ranges.height) ∙ bits-cast c.args.height
