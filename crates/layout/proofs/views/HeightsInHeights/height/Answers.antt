-- The height of a cell is at its place behind the first.
use Rattle.std.proofs.Common.{◌∙◌, ap, sym, arith, w32}
use mir.ValLaws.{to_z-of_z}
use Rattle.layout.specs.Layout.{signed_of}
use Rattle.layout.proofs.Rows.{heights-length, heights-at}
use Rattle.layout.proofs.views.HeightsInHeights.height.Goals as goal

pub overflow_add-self : goal.overflow_add-self
overflow_add-self c =
    let s = c.args.self in
    record { fits = omega (arith, s.fits, heights-length s.bytes.now s.at s.count, c.requires, c.ranges.self.0) }

pub get-requires : goal.get-requires
get-requires c =
    let s = c.args.self in
    omega (arith, s.fits, heights-length s.bytes.now s.at s.count, c.requires)

pub returns : goal.returns
returns c =
    let s = c.args.self in
    to_z-of_z w32 c.signed.result (record { sfits = c.signed.type_inv }) ∙ c.signed.ensures
    ∙ ap signed_of c.get.ensures
    ∙ sym (heights-at s.bytes.now s.at s.count c.args.cell
    (omega (arith, heights-length s.bytes.now s.at s.count, c.requires)))
