-- The six numbers are laid one after the other (`over-next`).
use Rattle.std.proofs.Common.{ℕ, [], ◌∷◌, ◌+◌, ◌*◌, ◌/◌, refl, ap, ◌∙◌, arith}
use Rattle.layout.specs.Layout.{header_of, total_of}
use Rattle.layout.proofs.Over.{over-nil, over-next}
use Rattle.writer.proofs.put_header.Goals as goal

pub returns : goal.returns
unfolding header_of
returns c =
    let args = c.args in
    let s = args.room.now in
    let rows = args.rows in
    let cells = args.cells in
    let n = args.n in
    let columns = cells / rows in
    let offset = 24 + 4 * cells in
    let total = total_of cells n in
    let columns-is = c.narrow.ensures ∙ ap (λ (d : ℕ). cells / d) c.index.ensures in
    let e0 = over-next s [] rows 0 0 (omega arith) (over-nil s 0) refl refl c.put_word.ensures in
    let e1 = over-next s (rows ∷ []) columns 0 4 (omega arith) e0 refl columns-is c.put_word-2.ensures in
    let e2 =
    over-next s (rows ∷ columns ∷ []) n 0 8 (omega arith) e1 refl c.narrow-2.ensures
    c.put_word-3.ensures in
    let e3 =
    over-next s (rows ∷ columns ∷ n ∷ []) 24 0 12 (omega arith) e2 refl refl c.put_word-4.ensures in
    let e4 =
    over-next s (rows ∷ columns ∷ n ∷ 24 ∷ []) offset 0 16 (omega arith) e3 refl c.narrow-3.ensures
    c.put_word-5.ensures in
    over-next s (rows ∷ columns ∷ n ∷ 24 ∷ offset ∷ []) total 0 20 (omega arith) e4 refl
    c.narrow-4.ensures
    c.put_word-6.ensures
