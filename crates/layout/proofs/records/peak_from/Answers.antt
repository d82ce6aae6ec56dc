-- The four numbers are those of the record.
use Rattle.std.proofs.Common.{◌∙◌, w32}
use mir.ValLaws.{to_z-of_z}
use Rattle.layout.specs.Layout.{peak_from}
use Rattle.layout.proofs.records.peak_from.Goals as goal

pub returns : goal.returns
unfolding peak_from
returns c =
    let height = c.signed-height in
    let key = c.signed-key in
    c.with_key.ensures
    ∙ rw (
      to_z-of_z w32 height.result (record { sfits = height.type_inv }),
      to_z-of_z w32 key.result (record { sfits = key.type_inv }),
      height.ensures,
      key.ensures,
      c.get-cell.ensures,
      c.get.ensures,
      c.get-2.ensures,
      c.get-pass.ensures,
    )
