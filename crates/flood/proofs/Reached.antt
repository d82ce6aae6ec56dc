-- What a flood has reached, in terms of paths: the region of its start, in reading order by a test, and with the best
-- place of the queue its best cell.
--     reached-decides, reached-region    which cells are reached, by a test and by paths
--     reached-best, reached-top          the best place, and the best cell, are of the best cell of the region
-- Assumes nothing.
use mathlib.Core.Path.{◌≡◌, sym, ◌∙◌, subst}
use mathlib.Core.List.{List}
use Prim.Native.Nat.{ℕ, ◌<◌}
use native.Mathlib.Omega.{arith}
use Rattle.relief.specs.Outline.{Region}
use Rattle.relief.specs.Accounts.{InOrder}
use Rattle.relief.specs.Inner.{Decides, cut, Better, above, before, row_below}
use Rattle.relief.proofs.Tests.{lt-decides, decides-iff}
use Rattle.relief.proofs.Levels.{cut_below}
use Rattle.relief.proofs.Rows.{row_below_lem}
use Rattle.area.specs.Area.{Area, level_in, order_in, parent_in}
use Rattle.flood.specs.Flood.{Flooded, BestPlace, BestCell, reached_in}
use Rattle.flood.proofs.FirstWays.{reach-sound, reach-complete}

pub reached-decides : (t : List ℕ) (n c : ℕ) → Decides (parent_in t n c < n) (reached_in t n c)
unfolding reached_in
reached-decides t n c = lt-decides (parent_in t n c) n

-- only the levels of the two cells count
better-same : {f g : ℕ → ℕ} {c x : ℕ} → f c ≡ g c → f x ≡ g x → Better f c x → Better g c x
better-same d e (above l) = above (omega arith)
better-same d e (before i l) = before (omega arith) l

module _ {touch : ℕ → ℕ → Type 0} {s t : List ℕ} {n p low count : ℕ} (f : Flooded touch s t n p low count) where
  pub flooded-area : Area s n → Area t n
  flooded-area a = let e = f.len in let r = a.room in record { few = a.few; room = omega arith }

  pub reached-region : InOrder (Region touch (cut n (level_in s)) p low) (row_below (reached_in t n) n)
  reached-region =
      row_below_lem (reached_in t n) n (λ c l. decides-iff (way_of c l) (λ w. (place_of c w).1) (reached-decides t n c))
      (λ c w. (place_of c w).0)
    where
      way_of : (c : ℕ) → c < n → parent_in t n c < n → Region touch (cut n (level_in s)) p low c
      way_of c l m =
          let (i, h, e) = f.found c l m in
          subst (Region touch (cut n (level_in s)) p low) e (reach-sound f.spread i h)

      place_of : (c : ℕ) → Region touch (cut n (level_in s)) p low c → (c < n) × (parent_in t n c < n)
      place_of c w =
          let (j, l, e) = reach-complete f.spread w in
          subst (λ (d : ℕ). (d < n) × (parent_in t n d < n)) e (f.inside j l)

  level-kept : (d : ℕ) → d < n → cut n (level_in s) d ≡ level_in t d
  level-kept d l = cut_below n (level_in s) d l ∙ sym (f.front d l)

  pub reached-best : {at : ℕ} → BestPlace t n count at → Region touch (cut n (level_in s)) p low (order_in t n at)
      × ((d : ℕ) → Region touch (cut n (level_in s)) p low d → Better (cut n (level_in s)) d (order_in t n at) → ⊥)
  reached-best {at} b = (
    reach-sound f.spread at b.place,
    λ d w h.
        let (j, l, i) = reach-complete f.spread w in
        let m : d < n = subst (λ (x : ℕ). x < n) i (f.inside j l).0 in
        b.best j l (subst (λ (x : ℕ). Better (level_in t) x (order_in t n at)) (sym i)
        (better-same (level-kept d m) (level-kept (order_in t n at) (f.inside at b.place).0) h)),
  )

  pub reached-top : {r : ℕ} → BestCell t n n r → Region touch (cut n (level_in s)) p low r
      × ((d : ℕ) → Region touch (cut n (level_in s)) p low d → Better (cut n (level_in s)) d r → ⊥)
  reached-top {r} b =
      let (i, h, e) = f.found r b.cell b.reached in (
        subst (Region touch (cut n (level_in s)) p low) e (reach-sound f.spread i h),
        λ d w g.
            let (j, l, q) = reach-complete f.spread w in
            let (m, o) = subst (λ (x : ℕ). (x < n) × (parent_in t n x < n)) q (f.inside j l) in
            b.best d m o (better-same (level-kept d m) (level-kept r b.cell) g),
      )
