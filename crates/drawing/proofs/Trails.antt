-- A trail, counted and put into a row from its end. The places fall along it, so the walk ends; what is left of the
-- trail is the trail to the place where the walk stands.
--     trail-back                       one step back
--     Counts, counts-*                 counting its cells
--     Lays, lays-*                     putting them
-- Assumes nothing.
use mathlib.Core.Path.{◌≡◌, refl, sym, ◌∙◌, ap, subst}
use mathlib.Core.List.{List, [], ◌∷◌, ◌++◌, append-nil, append_assoc}
use Prim.Native.Nat.{ℕ, suc, ◌+◌, ◌≤◌, ◌<◌}
use native.Mathlib.Omega.{arith}
use lib.ListN.{length, set, length-append}
use Rattle.relief.proofs.Tests.{split, le-or-lt}
use Rattle.words.specs.Words.{over}
use Rattle.words.proofs.Over.{over_none, over-front, over-ahead}
use Rattle.area.specs.Area.{order_in, parent_in}
use Rattle.flood.specs.Flood.{Trail, root, next}
use Rattle.flood.proofs.FirstWays.{trail-unique}
use Rattle.drawing.specs.Drawing.{Filled}
use Rattle.drawing.specs.Inner.{TrailIn, Trailing}

module _ {queue from : ℕ → ℕ} where
  -- a trail ends with the cell at its place
  pub trail-back : {j : ℕ} {l : List ℕ} → Trail queue from j l
      → (m : List ℕ) × (l ≡ m ++ (queue j ∷ [])) × ((0 < j → Trail queue from (from (queue j)) m) × (j ≡ 0 → m ≡ []))
  trail-back root = ([], refl, (λ h. absurd (omega arith), λ e. refl))
  trail-back (next {j} {l} h t) = (l, refl, (λ i. t, λ e. absurd (omega arith)))

-- ---- counting

-- `count` cells are counted, and the trail to the place j is left
pub record Counts (s : List ℕ) (n at : ℕ) (row : List ℕ) (count j : ℕ) : Type 0 where
  pub some : 0 < count
  pub place : count + j ≤ suc at
  pub left : List ℕ
  pub trail : TrailIn s n j left
  pub sum : count + length left ≡ suc (length row)

module _ {s : List ℕ} {n at : ℕ} (t : Trailing s n at) where
  module _ {count j : ℕ} (h : Counts s n at t.row count j) where
    pub counts-place : j < t.count
    counts-place = let l = h.place in let m = t.place in let k = h.some in omega arith

    pub counts-few : count ≤ t.count
    counts-few = let l = h.place in let m = t.place in omega arith

    pub counts-falls : 0 < j → parent_in s n (order_in s n j) < j
    counts-falls l = t.falls j l counts-place

    pub counts_step : {i : ℕ} → 0 < j → i ≡ parent_in s n (order_in s n j) → Counts s n at t.row (count + 1) i
    counts_step {i} l e =
        let (m, f, back) = trail-back h.trail in
        let g = counts-falls l in
        let k = length-append m (order_in s n j ∷ []) in
        let o = ap length f in
        let p = h.place in
        let q = h.sum in
        record {
          some = omega arith;
          place = omega arith;
          left = m;
          trail = subst (λ (x : ℕ). TrailIn s n x m) (sym e) (back.0 l);
          sum = omega arith;
        }

    pub counts-done : j ≤ 0 → (l : List ℕ) → TrailIn s n at l → count ≡ length l
    counts-done z l w =
        let (m, f, back) = trail-back h.trail in
        let e : m ≡ [] = back.1 (omega arith) in
        let g : length h.left ≡ 1 = ap length (f ∙ ap (λ (x : List ℕ). x ++ (order_in s n j ∷ [])) e) in
        let k = ap length (trail-unique t.trail w) in
        let q = h.sum in
        omega arith

-- ---- putting

-- the cells from the i-th on are put, and the trail to the place j is left
pub record Lays (s : List ℕ) (n at : ℕ) (cells row row' : List ℕ) (j i : ℕ) : Type 0 where
  pub left : List ℕ
  pub rest : List ℕ
  pub all : cells ≡ left ++ rest
  pub counted : length left ≡ i
  pub place : 0 < i → (j ≤ at) × TrailIn s n j left
  pub laid : row' ≡ over row i rest

-- a list of no length
nothing : (l : List ℕ) → length l ≡ 0 → l ≡ []
nothing [] e = refl
nothing (x ∷ l) e = absurd (omega arith)

module _ {s : List ℕ} {n at : ℕ} (t : Trailing s n at) {row : List ℕ} (room : length t.row ≤ length row) where
  pub lays-start : {i : ℕ} → i ≡ length t.row → Lays s n at t.row row row at i
  lays-start {i} e = record {
    left = t.row;
    rest = [];
    all = sym (append-nil t.row);
    counted = sym e;
    place = λ l. (omega arith, t.trail);
    laid = over_none row i;
  }

  module _ {row' : List ℕ} {j i : ℕ} (h : Lays s n at t.row row row' j i) where
    fits : i + length h.rest ≡ length t.row
    fits =
        let e = ap length h.all in
        let f = length-append h.left h.rest in
        let g = h.counted in
        omega arith

    pub lays-place : 0 < i → j < t.count
    lays-place l = let (m, w) = h.place l in let p = t.place in omega arith

    pub lays_step : {k c j' : ℕ} {row'' : List ℕ} → i ≡ suc k → c ≡ order_in s n j → row'' ≡ set row' k c
        → j' ≡ parent_in s n (order_in s n j) → Lays s n at t.row row row'' j' k
    lays_step {k} {c} {j'} {row''} e ec er ej =
        let (p, w) = h.place (omega arith) in
        let (m, f, back) = trail-back w in
        let g = ap length f in
        let o = length-append m (order_in s n j ∷ []) in
        let q = h.counted in
        let a = fits in
        record {
          left = m;
          rest = c ∷ h.rest;
          all = h.all ∙ ap (λ (x : List ℕ). x ++ h.rest) f ∙ append_assoc m (order_in s n j ∷ []) h.rest
              ∙ ap (λ (x : ℕ). m ++ (x ∷ h.rest)) (sym ec);
          counted = omega arith;
          place = λ l. split (le-or-lt j 0)
              (λ z. let y = ap length (back.1 (omega arith)) in absurd (omega arith))
              (λ z. let y = t.falls j z (lays-place (omega arith)) in
              (omega arith, subst (λ (x : ℕ). TrailIn s n x m) (sym ej) (back.0 z)));
          laid = er ∙ ap (λ (x : List ℕ). set x k c) h.laid ∙ over-ahead row k i c h.rest e (omega arith);
        }

    pub lays-done : i ≤ 0 → {len : ℕ} → len ≡ length t.row → (l : List ℕ) → TrailIn s n at l → Filled l row row' len
    lays-done z {len} el l w =
        let e : h.left ≡ [] = nothing h.left (let q = h.counted in omega arith) in
        let f : t.row ≡ h.rest = h.all ∙ ap (λ (x : List ℕ). x ++ h.rest) e in
        let g : t.row ≡ l = trail-unique t.trail w in
        let o : row' ≡ over row 0 h.rest = h.laid ∙ ap (λ (x : ℕ). over row x h.rest) (omega arith) in
        record {
          count = el ∙ ap length g;
          cells_in = o ∙ ap (over row 0) (sym f ∙ g) ∙ over-front row l;
        }
