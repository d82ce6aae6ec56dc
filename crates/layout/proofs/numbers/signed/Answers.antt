-- A cast reads the bits so.
use Rattle.std.proofs.Common.{◌∙◌, w32}
use mir.ValLaws.{to_z-of_z}
use Rattle.layout.proofs.Complement.{signed-cast}
use Rattle.layout.proofs.numbers.signed.Goals as goal

pub returns : goal.returns
returns c =
    to_z-of_z w32 c.cast_signed.result (record { sfits = c.cast_signed.type_inv }) ∙ c.cast_signed.ensures
    ∙ signed-cast c.args.bits
