-- A height stored is one more of the file.
use Rattle.std.proofs.Common.{◌≡◌, ◌∙◌, sym, ap, arith, w32}
use mir.ValLaws.{to_z-of_z}
use Rattle.layout.specs.Layout.{signed_of, heights_in}
use Rattle.layout.proofs.Rows.{heights-grow}
use Rattle.table.proofs.Grows.{filled, filled-start, filled-next}
use Rattle.reader.proofs.take_heights.Goals as goal

pub loop-i-init : goal.loop-i-init
loop-i-init c = sym (filled-start (heights-grow c.args.file.now 6 c.args.n) c.args.heights.now)

pub loop-i-preserved : goal.loop-i-preserved
loop-i-preserved c =
    let value =
    to_z-of_z w32 c.signed.result (record { sfits = c.signed.type_inv }) ∙ c.signed.ensures
    ∙ ap signed_of c.get.ensures in
    filled-next (heights-grow c.args.file.now 6 c.args.n) c.args.heights.now c.loop-i.i (omega arith) (omega arith)
    c.loop-i.heights _ c.loop-i.invariant value

pub returns : goal.returns
returns c =
    let e : c.loop-i.i ≡ c.args.n = omega arith in
    c.loop-i.invariant ∙ ap (filled (heights_in c.args.file.now) c.args.heights.now) e
