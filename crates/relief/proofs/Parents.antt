-- Parents: laws of `Region`, `TopPeak` and `Parent`. The top peak of a region is its best cell: a better one would
-- climb to a peak that is better too. So a region has one top peak, and the cell that a test finds best is it. The way
-- to outranking ground stays in the region, so the parent outranks its child; and were the parent's own key height no
-- lower than the child's, its outranking ground would lie in the region. So it is lower, and the parent's prominence is
-- greater than the child's.
--     top-of-best, best-of-top    the top peak of a region in terms of better cells
--     top_unique                  a region has one top peak
--     summit, summit-best         the best cell of a region, computed
--     parent-of-pass              the best cell of the region of a peak's pass cell is the peak's parent
--     parent-summit, -exists, -unique, -none    a peak with a key height has one parent, one without has none
--     parent-outranks, -listed    the parent outranks its child, and is listed where the child is
-- Assumes nothing.
use mathlib.Core.Path.{◌≡◌, refl, ◌∙◌, subst}
use mathlib.Core.Bool.{Bool, ◌&&◌}
use mathlib.Core.Logic.{◌⊎◌, inl, inr}
use Prim.Native.Nat.{ℕ, ◌-◌, ◌≤◌, ◌<◌}
use native.Mathlib.Omega.{arith}
use lib.Dec.{eqb, leb}
use Rattle.relief.specs.Peaks.{alone, Peak, Outranks, higher, twin, KeyHeight, NoKey, PassCell, Flat}
use Rattle.relief.specs.Peaks.{Key, missing, key, Entry, Wanted, KeyOf, Listed}
use Rattle.relief.specs.Outline.{Region, TopPeak, Parent}
use Rattle.relief.specs.Inner.{Decides, Better, above, before}
use Rattle.relief.proofs.Tests.{split, le-or-lt, eq-decides, le-decides, and-decides, passes}
use Rattle.relief.proofs.Tests.{first-from, top_below, top_below_lem, first_from}
use Rattle.relief.proofs.Ways.{way_end, way-trans, way-mono, way_step, way-sym}
use Rattle.relief.proofs.Reach.{reach, way-decides}
use Rattle.relief.proofs.Flats.{Terrain, land-below, peak-keeps, outranks-better, climb}
use Rattle.relief.proofs.Keys.{key-unique, key-exclusive, key-land, key-way, key_below, peak-of-best}
use Rattle.relief.proofs.Survey.{entry_at, entry_at-right}

-- c is a cell of p's region at k, by a test; and the first of the highest such cells
abbrev pub region? : (ℕ → ℕ → Bool) → (ℕ → ℕ) → ℕ → ℕ → ℕ → ℕ → Bool
region? touch? level n p k = reach touch? (λ c. leb k (level c)) n p

abbrev pub summit : (ℕ → ℕ → Bool) → (ℕ → ℕ) → ℕ → ℕ → ℕ → ℕ
summit touch? level n p k =
    first_from n 0 (λ c. region? touch? level n p k c && eqb (level c) (top_below n (region? touch? level n p k) level))

-- no cell of x's region at k is better than q
abbrev pub BestOf : (ℕ → ℕ → Type 0) → (ℕ → ℕ) → ℕ → ℕ → ℕ → Type 0
BestOf touch level x k q = (d : ℕ) → Region touch level x k d → Better level d q → ⊥

-- ---- the top peak of a region

module _ {touch : ℕ → ℕ → Type 0} {touch? : ℕ → ℕ → Bool} {level : ℕ → ℕ} {n : ℕ}
    (t : Terrain touch touch? level n) where
  pub top-of-best : {p k q : ℕ} → 0 < k → Region touch level p k q → BestOf touch level p k q
      → TopPeak touch level p k q
  top-of-best {p} {k} {q} l w best =
      let m : k ≤ level q = way_end w in
      record {
        peak = peak-of-best {k = k - 1} (omega arith)
            (λ c v b. best c (way-trans w (way-mono (λ d h. omega arith) v)) b);
        inside = w;
        top = λ r p v. split (le-or-lt (level q) (level r))
            (λ h. split (le-or-lt (level r) (level q))
            (λ i. inr (omega arith, split (le-or-lt q r) (λ j. j) (λ j. absurd (best r v (before (omega arith) j)))))
            (λ i. absurd (best r v (above i))))
            (λ h. inl h);
      }

  pub best-of-top : {p k q : ℕ} → 0 < k → TopPeak touch level p k q → BestOf touch level p k q
  best-of-top {p} {k} {q} l h d w b =
      let m : k ≤ level d = way_end w in
      let (r, s, v) = climb t d (omega arith) in
      let i : level d ≤ level r = way_end v in
      go b r s v (h.top r s (way-trans w (way-mono (λ c j. omega arith) v)))
    where
      go : Better level d q → (r : ℕ) → Peak touch level r → Region touch level d (level d) r
          → (level r < level q) ⊎ ((level r ≡ level q) × (q ≤ r)) → ⊥
      go (above j) r s v (inl i) = let m : level d ≤ level r = way_end v in omega arith
      go (above j) r s v (inr i) = let m : level d ≤ level r = way_end v in let e = i.0 in omega arith
      go (before e j) r s v (inl i) = let m : level d ≤ level r = way_end v in omega arith
      go (before e j) r s v (inr i) =
          let f = i.0 in
          let g = i.1 in
          let u : Flat touch level r d = peak-keeps s (way-mono (λ c m. omega arith) (way-sym t.symmetric v)) in
          let m : r ≤ d = s.earliest d u in
          omega arith

  pub top_unique : {p k q r : ℕ} → TopPeak touch level p k q → TopPeak touch level p k r → q ≡ r
  top_unique {p} {k} {q} {r} h i =
      split (h.top r i.peak i.inside)
      (λ l. split (i.top q h.peak h.inside) (λ m. absurd (omega arith))
      (λ m. let e = m.0 in absurd (omega arith)))
      (λ l. let e = l.0 in let f = l.1 in
      split (i.top q h.peak h.inside) (λ m. absurd (omega arith)) (λ m. let g = m.1 in omega arith))

  -- ---- the best cell of a region

  region-decides : (p k : ℕ) → 0 < k → (c : ℕ) → Decides (Region touch level p k c) (region? touch? level n p k c)
  region-decides p k l =
      way-decides t.decides (λ c. le-decides k (level c)) n (λ c h. land-below t c (omega arith)) p

  pub summit-best : (p k : ℕ) → 0 < k → k ≤ level p
      → Region touch level p k (summit touch? level n p k) × BestOf touch level p k (summit touch? level n p k)
  summit-best p k l m =
      let high = top_below n (region? touch? level n p k) level in
      let top = top_below_lem n (region? touch? level n p k) level in
      let told : (c : ℕ) → Decides (Region touch level p k c × (level c ≡ high))
      (region? touch? level n p k c && eqb (level c) high) =
      λ c. and-decides (region-decides p k l c) (eq-decides (level c) high) in
      let upper : (d : ℕ) → Region touch level p k d → level d ≤ high =
      λ d w. top.upper d (land-below t d (let i : k ≤ level d = way_end w in omega arith))
      (passes (region-decides p k l d) w) in
      let (i, j, f, e) = top.attained (omega (arith, upper p (alone m))) in
      let first = first-from told n 0 in
      let early : (d : ℕ) → Region touch level p k d → level d ≡ high → summit touch? level n p k ≤ d =
      λ d w e. split (le-or-lt (summit touch? level n p k) d) (λ i. i)
      (λ i. absurd (first.none d (omega arith) i (w, e))) in
      let (w, h) = first.found (omega (arith, early i ((region-decides p k l i).holds f) e)) in
      (w, λ d v b. go d (upper d v) h (early d v) b)
    where
      go : (d : ℕ) → level d ≤ top_below n (region? touch? level n p k) level
          → level (summit touch? level n p k) ≡ top_below n (region? touch? level n p k) level
          → (level d ≡ top_below n (region? touch? level n p k) level → summit touch? level n p k ≤ d)
          → Better level d (summit touch? level n p k) → ⊥
      go d i h early (above j) = omega arith
      go d i h early (before e j) = let m = early (e ∙ h) in omega arith

  -- ---- parents

  pub parent-of-pass : {p k x q : ℕ} → Peak touch level p → KeyHeight touch level p k → PassCell touch level p k x
      → Region touch level x k q → BestOf touch level x k q → Parent touch level p q
  parent-of-pass {p} {k} {x} {q} r h c w best =
      let e = c.height in
      let v : Region touch level p k x =
      way_step (way-mono (λ d i. omega arith) c.inside) c.touches (omega arith) in
      record {
        key = k;
        keyed = h;
        above = top-of-best (key-land h) (way-trans v w)
            (λ d u b. best d (way-trans (way-sym t.symmetric v) u) b);
      }

  pub parent-unique : {p q r : ℕ} → Parent touch level p q → Parent touch level p r → q ≡ r
  parent-unique {p} {q} {r} h i =
      top_unique h.above
      (subst (λ (k : ℕ). TopPeak touch level p k r) (key-unique i.keyed h.keyed) i.above)

  pub parent-none : {p q : ℕ} → NoKey touch level p → Parent touch level p q → ⊥
  parent-none none h = key-exclusive h.keyed none

  -- outranking ground leads to a better cell of the region
  key-better : {p k : ℕ} → Peak touch level p → KeyHeight touch level p k
      → (g : ℕ) × Better level g p × Region touch level p k g
  key-better {p} {k} r h =
      let l : k < level p = key_below t.symmetric r h in
      let (g, b, w) = outranks-better t.symmetric h.outranks in
      (g, b, way-trans (key-way h) (way-mono (λ c i. omega arith) w))

  pub parent-outranks : {p q : ℕ} → Peak touch level p → Parent touch level p q → Outranks touch level p q
  parent-outranks {p} {q} r h =
      let (g, b, w) = key-better r h.keyed in
      go g b (best-of-top (key-land h.keyed) h.above g w)
    where
      go : (g : ℕ) → Better level g p → (Better level g q → ⊥) → Outranks touch level p q
      go g (above l) best =
          split (le-or-lt (level g) (level q)) (λ m. higher (omega arith)) (λ m. absurd (best (above m)))
      go g (before e l) best =
          split (le-or-lt (level q) (level p))
          (λ m. split (le-or-lt (level g) (level q))
          (λ i. split (le-or-lt q g)
          (λ j. twin q h.above.peak (omega arith) (omega arith) (alone refl))
          (λ j. absurd (best (before (omega arith) j))))
          (λ i. absurd (best (above i))))
          (λ m. higher m)

  pub parent-summit : {p k : ℕ} → Peak touch level p → KeyHeight touch level p k
      → Parent touch level p (summit touch? level n p k)
  parent-summit {p} {k} r h =
      let l : k < level p = key_below t.symmetric r h in
      let (w, best) = summit-best p k (key-land h) (omega arith) in
      record { key = k; keyed = h; above = top-of-best (key-land h) w best }

  pub parent-exists : {p k : ℕ} → Peak touch level p → KeyHeight touch level p k → (q : ℕ) × Parent touch level p q
  parent-exists {p} {k} r h = (summit touch? level n p k, parent-summit r h)

  -- a parent's key height, if it has one, is below its child's
  parent-key : {p q k : ℕ} (h : Parent touch level p q) → KeyHeight touch level q k → k < h.key
  parent-key {p} {q} {k} h i =
      split (le-or-lt h.key k)
      (λ l. let (g, b, w) = key-better h.above.peak i in
      absurd (best-of-top (key-land h.keyed) h.above g
      (way-trans h.above.inside (way-mono (λ c m. omega arith) w)) b))
      (λ l. l)

  parent-high : {p q : ℕ} → Peak touch level p → Parent touch level p q → level p ≤ level q
  parent-high {p} {q} r h = go (parent-outranks r h)
    where
      go : Outranks touch level p q → level p ≤ level q
      go (higher l) = omega arith
      go (twin g s e l w) = let f : level q ≡ level g = way_end w in omega arith

  pub parent_listed : {T q : ℕ} {e : Entry} → Listed touch level T e → Parent touch level e.cell q
      → (d : Entry) × (d.cell ≡ q) × Listed touch level T d
  unfolding entry_at
  parent_listed {T} {q} {e} l h =
      let right = entry_at-right t q h.above.peak in (
        entry_at touch? level n q,
        refl,
        record {
          right = right;
          wanted = go e.key (entry_at touch? level n q).key l.right.keyed right.keyed l.wanted;
        },
      )
    where
      go : (k j : Key) → KeyOf touch level e.cell k → KeyOf touch level q j → Wanted T e.level k
          → Wanted T (level q) j
      go k missing i i' w = tt
      go missing (key j x) i i' w = absurd (parent-none i h)
      go (key k c) (key j x) i i' w =
          let m : j < h.key = parent-key h i'.0 in
          let f : h.key ≡ k = key-unique h.keyed i.0 in
          let o = parent-high l.right.peak h in
          let g = l.right.height in
          omega arith
