-- The account that is drawn: the flood above the key height gives the island, the flood at it the first way to the best
-- cell reached, which is the parent's. Both are of the levels that were there.
--     draw-drawing      the key height is below the peak's, so that the floods can begin
--     drew              what was drawn is the tool's own account
-- Assumes nothing.
use mathlib.Core.Path.{◌≡◌, refl, sym, ◌∙◌, subst}
use mathlib.Core.List.{List, [], ◌∷◌}
use Prim.Native.Nat.{ℕ, suc, ◌*◌, ◌≤◌, ◌<◌}
use native.Mathlib.Omega.{arith}
use lib.IntN.{ℤ}
use lib.ListN.{length, get_or}
use mir.Syntax.{w32}
use mir.Val.{SFits}
use Rattle.relief.specs.Heights.{level_of}
use Rattle.relief.specs.Peaks.{Island}
use Rattle.relief.specs.Plane.{plane_of, touch_of}
use Rattle.relief.specs.Accounts.{InOrder, OwnAccount}
use Rattle.relief.specs.Inner.{cut}
use Rattle.relief.proofs.Tests.{split, le-or-lt}
use Rattle.relief.proofs.Levels.{cut-behind, cut-equal, cut-land}
use Rattle.relief.proofs.Flats.{Terrain}
use Rattle.relief.proofs.Shapes.{touch?, touch-terrain}
use Rattle.relief.proofs.Accounts.{own_of, own-of-none}
use Rattle.words.specs.Words.{word_at}
use Rattle.words.proofs.Laws.{Bytes, bytes-beyond}
use Rattle.record.specs.Refusals.{granted}
use Rattle.area.specs.Area.{level_in}
use Rattle.drawing.specs.Drawing.{Drawing, DrawnIsland, DrawnPath, PathTo}
use Rattle.account.specs.Inner.{Drawable, Drew}

-- bytes behind the work area stay where its numbers do
pub bytes-stay : (s t : List ℕ) (n : ℕ) → Bytes s → Bytes t → ((j : ℕ) → 3 * n ≤ j → word_at t j ≡ word_at s j)
    → (i : ℕ) → 16 * n ≤ i → get_or t i 0 ≡ get_or s i 0
bytes-stay s t n bs bt same i l =
    bytes-beyond s t bs bt (4 * n) (λ j h. same j (omega arith)) i (omega arith)

module _ {rows : ℕ} {s : List ℕ} {n p k : ℕ} {path island : List ℕ} (w : Drawable s n rows p k path island) where
  terrain : Terrain (touch_of (plane_of rows)) (touch? (plane_of rows)) (cut n (level_in s)) n
  terrain = touch-terrain (plane_of rows) (cut-behind n (level_in s))

  pub draw-drawing : {a row : List ℕ} → ((c : ℕ) → c < n → level_in a c ≡ level_in s c) → length a ≡ length s
      → n ≤ length row → Drawing a n rows p k row
  draw-drawing same len room =
      let a = w.above in
      let (cell, h) = cut-land n (level_in s) p {k = suc k} (omega arith) (omega arith) in
      record {
        area = record { few = w.area.few; room = let r = w.area.room in omega arith };
        rows_some = w.rows_some;
        rows_few = w.rows_few;
        cell = cell;
        above = let e = same p cell in omega arith;
        room = room;
      }

  module _ {b t path' island' : List ℕ} {cells steps : ℕ}
      (h : DrawnIsland (touch_of (plane_of rows)) s b n p k island island' cells)
      (q : DrawnPath (touch_of (plane_of rows)) b t n p k path path' steps) where
    own : OwnAccount (touch_of (plane_of rows)) (cut n (level_in s)) p k q.cells h.cells
    own = split (le-or-lt k 0) (λ l. without (omega arith)) with-key
      where
        without : k ≡ 0 → OwnAccount (touch_of (plane_of rows)) (cut n (level_in s)) p k q.cells h.cells
        without z =
            subst (λ (m : ℕ). OwnAccount (touch_of (plane_of rows)) (cut n (level_in s)) p m q.cells h.cells)
            (sym z)
            (subst (λ (l : List ℕ). OwnAccount (touch_of (plane_of rows)) (cut n (level_in s)) p 0 l h.cells)
            (sym (q.none z))
            (own-of-none terrain w.peak (w.none z)
            (subst (λ (m : ℕ). InOrder (Island (touch_of (plane_of rows)) (cut n (level_in s)) p m) h.cells) z
            h.order)))

        with-key : 0 < k → OwnAccount (touch_of (plane_of rows)) (cut n (level_in s)) p k q.cells h.cells
        with-key l =
            let (e, o) = q.leads l in
            let o' =
            subst (λ (L : ℕ → ℕ). PathTo (touch_of (plane_of rows)) L p k e q.cells)
            (cut-equal n (level_in b) (level_in s) h.front) o in
            own_of terrain w.peak (w.some l) o'.inside o'.best o'.way h.order

    pub drew : {key : ℤ} {u v : ℕ} → level_of key ≡ k → SFits w32 key → u ≡ steps → v ≡ cells → Bytes s → Bytes t
        → Drew rows s t n p path path' island island' (record { key = key; path = u; island = v })
    drew ek fits eu ev bs bt = record {
      key = k;
      way = q.cells;
      isle = h.cells;
      right = own;
      answered = told ek (eu ∙ q.filled.count) (ev ∙ h.filled.count);
      fits = fits;
      path_after = q.filled.cells_in;
      island_after = h.filled.cells_in;
      beyond = bytes-stay s t n bs bt (λ j m. q.back j m ∙ h.back j m);
      len = q.len ∙ h.len;
    }
      where
        told : {l l' u u' v v' : ℕ} → l ≡ l' → u ≡ u' → v ≡ v'
            → granted (l ∷ u ∷ v ∷ []) ≡ granted (l' ∷ u' ∷ v' ∷ [])
        told e f g = rw (e, f, g) refl
