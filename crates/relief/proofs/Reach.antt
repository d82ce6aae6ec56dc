-- Whether a way exists on a finite grid is decidable, by a test that computes.
--     reach touch? in? m a b     there is a way from a to b whose middle cells are below m
--     way-decides                with m beyond all cells of the set, the test decides whether there is a way
-- A way with middle cells below m + 1 is one with middle cells below m, or goes through m and is two of them. What is
-- reached so is closed under joining at a cell below m: that is all a way of any length needs. To look first whether m
-- is in the set at all changes nothing but the time. Assumes nothing.
use mathlib.Core.Path.{◌≡◌, refl, subst}
use mathlib.Core.Bool.{Bool, ◌&&◌, ◌||◌}
use mathlib.Core.Logic.{◌⊎◌, inl, inr}
use Prim.Native.Nat.{ℕ, zero, suc, ◌<◌}
use native.Mathlib.Nat.{not-suc-le-zero}
use lib.Dec.{eqb}
use Rattle.relief.specs.Peaks.{Way, alone, onward}
use Rattle.relief.specs.Inner.{Decides}
use Rattle.relief.proofs.Tests.{split, and-decides, or-decides, decides-iff, eq-decides, below_suc}
use Rattle.relief.proofs.Ways.{way-start, way-trans}

abbrev pub reach : (ℕ → ℕ → Bool) → (ℕ → Bool) → ℕ → ℕ → ℕ → Bool
reach touch? in? zero a b = in? a && (in? b && (eqb a b || touch? a b))
reach touch? in? (suc m) a b =
    reach touch? in? m a b || (in? m && (reach touch? in? m a m && reach touch? in? m m b))

module _ (touch : ℕ → ℕ → Type 0) (In : ℕ → Type 0) where
  -- what `reach` tells
  abbrev Reach : ℕ → ℕ → ℕ → Type 0
  Reach zero a b = In a × (In b × ((a ≡ b) ⊎ touch a b))
  Reach (suc m) a b = Reach m a b ⊎ (In m × (Reach m a m × Reach m m b))

  way-of-reach : (m a b : ℕ) → Reach m a b → Way touch In a b
  way-of-reach zero a b r =
      split r.1.1
      (λ e. subst (Way touch In a) e (alone r.0))
      (λ t. onward r.0 t (alone r.1.0))
  way-of-reach (suc m) a b r =
      split r (way-of-reach m a b) (λ s. way-trans (way-of-reach m a m s.1.0) (way-of-reach m m b s.1.1))

  reach_near : (m a b : ℕ) → In a → In b → (a ≡ b) ⊎ touch a b → Reach m a b
  reach_near zero a b i j t = (i, (j, t))
  reach_near (suc m) a b i j t = inl (reach_near m a b i j t)

  reach-join : (m a b c : ℕ) → In b → b < m → Reach m a b → Reach m b c → Reach m a c
  reach-join zero a b c i h r s = absurd (not-suc-le-zero h)
  reach-join (suc m) a b c i h r s = split (below_suc b m h) here (below (λ a c. reach-join m a b c i))
    where
      here : b ≡ m → Reach (suc m) a c
      here e =
          inr (
            subst In e i,
            (
              split (subst (λ (x : ℕ). Reach (suc m) a x) e r) (λ x. x) (λ x. x.1.0),
              split (subst (λ (x : ℕ). Reach (suc m) x c) e s) (λ x. x) (λ x. x.1.1),
            ),
          )

      below : ((a c : ℕ) → b < m → Reach m a b → Reach m b c → Reach m a c) → b < m → Reach (suc m) a c
      below join l =
          split r
          (λ x. split s (λ y. inl (join a c l x y)) (λ y. inr (y.0, (join a m l x y.1.0, y.1.1))))
          (λ x. inr (x.0, (x.1.0, split s (λ y. join m c l x.1.1 y) (λ y. y.1.1))))

  reach-of-way : (n a b : ℕ) → ((c : ℕ) → In c → c < n) → Way touch In a b → Reach n a b
  reach-of-way n a b f (alone i) = reach_near n a a i i (inl refl)
  reach-of-way n a b f (onward {b = c} i t w) =
      let j = way-start w in
      reach-join n a c b j (f c j) (reach_near n a c i j (inr t)) (reach-of-way n c b f w)

module _ {touch : ℕ → ℕ → Type 0} {touch? : ℕ → ℕ → Bool} (d : (a b : ℕ) → Decides (touch a b) (touch? a b)) where
  reach-decides : {In : ℕ → Type 0} {in? : ℕ → Bool} → ((c : ℕ) → Decides (In c) (in? c)) → (m a b : ℕ)
      → Decides (Reach touch In m a b) (reach touch? in? m a b)
  reach-decides i zero a b =
      and-decides (i a) (and-decides (i b) (or-decides (eq-decides a b) (d a b)))
  reach-decides i (suc m) a b =
      or-decides (reach-decides i m a b)
      (and-decides (i m) (and-decides (reach-decides i m a m) (reach-decides i m m b)))

  pub way-decides : {In : ℕ → Type 0} {in? : ℕ → Bool} → ((c : ℕ) → Decides (In c) (in? c)) → (n : ℕ)
      → ((c : ℕ) → In c → c < n) → (a b : ℕ) → Decides (Way touch In a b) (reach touch? in? n a b)
  way-decides {In} i n f a b =
      decides-iff (way-of-reach touch In n a b) (reach-of-way touch In n a b f) (reach-decides i n a b)
