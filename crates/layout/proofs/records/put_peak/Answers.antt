-- The four numbers are laid one after the other (`over-next`).
use Rattle.std.proofs.Common.{◌*◌, [], ◌∷◌, refl, ap, ◌∙◌, arith, w32}
use mir.ValLaws.{to_z-of_z}
use Rattle.layout.specs.Layout.{bits_of, fields_of}
use Rattle.layout.proofs.Over.{over-nil, over-next}
use Rattle.layout.proofs.records.put_peak.Goals as goal

pub returns : goal.returns
unfolding fields_of
returns c =
    let args = c.args in
    let s = args.s.now in
    let cell = args.p.cell in
    let height = bits_of args.p.height in
    let key = bits_of args.p.key in
    let at = 4 * args.at in
    let height-is =
    c.bits.ensures
    ∙ ap bits_of (to_z-of_z w32 args.p.height (record { sfits = c.struct_told-1.given.1.0.1 })) in
    let key-is =
    c.bits-2.ensures
    ∙ ap bits_of (to_z-of_z w32 args.p.key (record { sfits = c.struct_told-1.given.1.1.0.1 })) in
    let e0 =
    over-next s [] cell at _ (omega arith) (over-nil s at) (omega arith) refl
    c.put_word.ensures in
    let e1 =
    over-next s (cell ∷ []) height at _ (omega arith) e0 (omega arith) height-is
    c.put_word-2.ensures in
    let e2 =
    over-next s (cell ∷ height ∷ []) key at _ (omega arith) e1 (omega arith) key-is
    c.put_word-3.ensures in
    over-next s (cell ∷ height ∷ key ∷ []) args.p.pass at _ (omega arith) e2 (omega arith) refl
    c.put_word-4.ensures
