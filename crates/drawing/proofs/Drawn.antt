-- What is drawn: the cells that a flood above k reaches are the island, and the trail to the best cell of a flood at k
-- is the first way to it.
--     drawn-island              the island, from the flood and the row
--     flooded-trailing, -length what following a trail asks
--     drawn-path                the path
-- Assumes nothing.
use mathlib.Core.Path.{◌≡◌, ◌∙◌, subst}
use mathlib.Core.List.{List}
use Prim.Native.Nat.{ℕ, ◌+◌, ◌≤◌, ◌<◌}
use native.Mathlib.Numerals.{add-one}
use native.Mathlib.Omega.{arith}
use lib.ListN.{length}
use Rattle.relief.specs.Inner.{row_below}
use Rattle.relief.proofs.Rows.{row-below-length}
use Rattle.area.specs.Area.{order_in}
use Rattle.flood.specs.Flood.{Flooded, BestPlace, reached_in}
use Rattle.flood.proofs.FirstWays.{trail-exists, trail-length, trail-way}
use Rattle.flood.proofs.Reached.{flooded-area, reached-region, reached-best}
use Rattle.drawing.specs.Drawing.{Drawing, Filled, DrawnIsland, DrawnPath}
use Rattle.drawing.specs.Inner.{TrailIn, Trailing}

module _ {s : List ℕ} {n rows p k : ℕ} {row : List ℕ} (d : Drawing s n rows p k row) where
  module _ {touch : ℕ → ℕ → Type 0} {t : List ℕ} {low count : ℕ} (f : Flooded touch s t n p low count) where
    pub flooded-trailing : {at : ℕ} → at < count → Trailing t n at
    flooded-trailing {at} l =
        let (r, w) = trail-exists f.spread at l in
        record {
          area = flooded-area f d.area;
          count = count;
          few = f.few;
          place = l;
          cells = λ i m. (f.inside i m).0;
          falls = λ i a b. (f.spread.came i a b).0;
          row = r;
          trail = w;
        }

    pub flooded-length : {at : ℕ} → at < count → {len : ℕ} → ((l : List ℕ) → TrailIn t n at l → len ≡ length l)
        → len ≤ n
    flooded-length {at} l {len} told =
        let (r, w) = trail-exists f.spread at l in
        let e = told r w in
        let m = trail-length f.spread l w in
        let g = f.few in
        omega arith

  pub drawn-island : {touch : ℕ → ℕ → Type 0} {t row' : List ℕ} {low count r : ℕ} → low ≡ k + 1
      → Flooded touch s t n p low count → Filled (row_below (reached_in t n) n) row row' r
      → DrawnIsland touch s t n p k row row' r
  drawn-island {touch} {t} {count = count} e f g = record {
    cells = row_below (reached_in t n) n;
    order = reached-region (subst (λ (m : ℕ). Flooded touch s t n p m count) (e ∙ add-one k) f);
    filled = g;
    few = let l = row-below-length (reached_in t n) n in let c = g.count in omega arith;
    front = f.front;
    back = f.back;
    len = f.len;
  }

  pub drawn-path : {touch : ℕ → ℕ → Type 0} {t row' : List ℕ} {count at len : ℕ} → 0 < k
      → (f : Flooded touch s t n p k count) → BestPlace t n count at
      → ((l : List ℕ) → TrailIn t n at l → Filled l row row' len) → DrawnPath touch s t n p k row row' len
  drawn-path {touch} {t} {row'} {count} {at} {len} land f b told =
      let (l, w) = trail-exists f.spread at b.place in
      let (inside, best) = reached-best f b in
      record {
        cells = l;
        none = λ e. absurd (omega arith);
        leads = λ m. (
          order_in t n at,
          record {
            inside = inside;
            best = best;
            way = trail-way f.spread b.place w;
          },
        );
        filled = told l w;
        few = flooded-length f b.place (λ l w. (told l w).count);
        back = f.back;
        len = f.len;
      }
