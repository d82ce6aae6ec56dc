-- A number read is below 2^32, so the height that `height` returns for a level is `height_of` of it (`height-unique`).
-- The test on the parent decides between the two records, as in `peak_in`.
use mathlib.Core.Path.{sym, ◌∙◌}
use native.Mathlib.Omega.{arith}
use Rattle.table.proofs.Laws.{height-unique, peak-without-key, peak-with-key}
use Rattle.table.proofs.peak_at.Goals as goal

pub returns-then-parent-cell : goal.returns-then-parent-cell
returns-then-parent-cell c =
    let h = c.height-height in
    let e = height-unique h.result c.get-level.result h.type_inv (omega arith) h.ensures in
    let l = c.get-level.ensures in
    let n = c.narrow-cell.ensures in
    let p = peak-without-key _ _ _ (sym c.get-parent.ensures ∙ c.if-parent-cell.true ∙ n) in
    let r = c.without_key.ensures in
    cc

pub returns : goal.returns
returns c =
    let k = c.height-key in
    let ek = height-unique k.result c.get-below.result k.type_inv (omega arith) k.ensures in
    let lk = c.get-below.ensures in
    let m = c.get.ensures in
    let q = c.cell_in-pass.ensures in
    let w = c.narrow.ensures in
    let h = c.height-height in
    let e = height-unique h.result c.get-level.result h.type_inv (omega arith) h.ensures in
    let l = c.get-level.ensures in
    let n = c.narrow-cell.ensures in
    let p = peak-with-key _ _ _ (λ q. c.if-parent-cell.false (c.get-parent.ensures ∙ q ∙ sym n)) in
    let r = c.with_key.ensures in
    cc
