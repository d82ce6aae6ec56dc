-- The best cell of a flood. What is reached is the region of the start, so the best cell of the queue is the best of
-- the region. The start is the best of what it reaches above a level just if no other cell is the best there, since of
-- two cells one is better. So a flood from a cell tells whether it is a peak's, and whether it is the best of its
-- island.
--     behind-same, -trans        what stands behind the parents stays
--     topped                     what a flood gives with its best cell
--     best-decides, peak-decides whether the start is the best, and a peak's cell
--     peak-blank, -told          the answers of `is_peak`
--     crest-told                 the answer of `crest`
-- Assumes nothing.
use mathlib.Core.Path.{◌≡◌, refl, sym, ◌∙◌, subst}
use mathlib.Core.Bool.{false}
use mathlib.Core.List.{List}
use Prim.Native.Nat.{ℕ, suc, ◌-◌, ◌<◌}
use native.Mathlib.Omega.{arith}
use lib.Dec.{eqb}
use borrow.Author.Tests.{eqb-true, eqb-false}
use Rattle.relief.specs.Peaks.{alone, Peak}
use Rattle.relief.specs.Outline.{Region}
use Rattle.relief.specs.Inner.{Decides, cut, Better, above, before, Best}
use Rattle.relief.proofs.Tests.{split, le-or-lt, decides-iff, refuted}
use Rattle.relief.proofs.Levels.{cut_below}
use Rattle.relief.proofs.Ways.{way-mono}
use Rattle.relief.proofs.Flats.{peak-not-better}
use Rattle.relief.proofs.Keys.{peak-of-best}
use Rattle.relief.proofs.Parents.{BestOf}
use Rattle.area.specs.Area.{level_in}
use Rattle.flood.specs.Flood.{Flooded, BestCell}
use Rattle.flood.proofs.Reached.{reached-top}
use Rattle.audit.specs.Audit.{Behind, PeakTold}
use Rattle.audit.specs.Inner.{Topped, Crested}

-- ---- what stays

pub behind-same : (s : List ℕ) (n : ℕ) → Behind s s n
behind-same s n = record { numbers = λ j l. refl; len = refl }

pub behind-trans : {s t u : List ℕ} {n : ℕ} → Behind s t n → Behind t u n → Behind s u n
behind-trans h i = record { numbers = λ j l. i.numbers j l ∙ h.numbers j l; len = i.len ∙ h.len }

-- ---- better cells

-- of two cells one is better
better-other : (level : ℕ → ℕ) (c x : ℕ) → (c ≡ x → ⊥) → (Better level x c → ⊥) → Better level c x
better-other level c x other worse =
    split (le-or-lt (level c) (level x))
    (λ l. split (le-or-lt (level x) (level c))
    (λ m. before (omega arith)
    (split (le-or-lt x c) (λ k. absurd (worse (before (omega arith) (omega arith)))) (λ k. k)))
    (λ m. absurd (worse (above m))))
    above

-- ---- a flood and its best place

module _ {touch : ℕ → ℕ → Type 0} {s t : List ℕ} {n c low count : ℕ} (f : Flooded touch s t n c low count) where
  pub flooded-behind : Behind s t n
  flooded-behind = record { numbers = f.back; len = f.len }

  pub topped : {r : ℕ} → BestCell t n n r → Topped touch s t n c low r
  topped b =
      let (inside, best) = reached-top f b in
      record { count = count; flooded = f; inside = inside; cell = b.cell; best = best }

-- ---- the start as the best cell

module _ {touch : ℕ → ℕ → Type 0} {level : ℕ → ℕ} {p low r : ℕ} (w : Region touch level p low r)
    (best : BestOf touch level p low r) where
  best-decides : {k : ℕ} → low ≡ suc k → k < level p → Decides (Best touch level k p) (eqb r p)
  best-decides {k} e l = record {
    holds = λ i c v b. best c (way-mono (λ d h. omega arith) v) (subst (Better level c) (sym (eqb-true r p i)) b);
    fails = λ i h. h r (way-mono (λ d m. omega arith) w)
        (better-other level r p (eqb-false r p i) (best p (alone (omega arith))));
  }

  peak-decides : 0 < low → low ≡ level p → Decides (Peak touch level p) (eqb r p)
  peak-decides l e =
      decides-iff (peak-of-best {k = low - 1} (omega arith))
      (λ h c v b. peak-not-better h (way-mono (λ d m. omega arith) v) b)
      (best-decides {k = low - 1} (omega arith) (omega arith))

-- ---- what a flood from a cell tells of it

module _ {touch : ℕ → ℕ → Type 0} (s : List ℕ) (n c : ℕ) where
  pub peak-blank : cut n (level_in s) c ≡ 0 → PeakTold touch s s n c false
  peak-blank e = record {
    told = refuted (λ h. let l = h.land in omega arith);
    front = λ j l. refl;
    behind = behind-same s n;
  }

module _ {touch : ℕ → ℕ → Type 0} {s t : List ℕ} {n c low r : ℕ} (h : Topped touch s t n c low r) (cell : c < n) where
  pub peak-told : 0 < low → low ≡ level_in s c → PeakTold touch s t n c (eqb r c)
  peak-told l e = record {
    told = peak-decides h.inside h.best l (e ∙ sym (cut_below n (level_in s) c cell));
    front = h.flooded.front;
    behind = flooded-behind h.flooded;
  }

  pub crest-told : {k : ℕ} → low ≡ suc k → k < level_in s c → Crested touch s t n c k (eqb r c)
  crest-told {k} e l =
      let i = cut_below n (level_in s) c cell in
      let d : Decides (Best touch (cut n (level_in s)) k c) (eqb r c) =
      best-decides h.inside h.best e (omega arith) in
      record {
        told = decides-iff (λ b. (l, b)) (λ m. m.1) d;
        reached = λ b. (h.count, subst (λ (m : ℕ). Flooded touch s t n c m h.count) e h.flooded);
        front = h.flooded.front;
        behind = flooded-behind h.flooded;
      }
