-- Tests that compute, and what they decide: each test of this crate is a Bool with a law that says what it tells.
--     split s f g                goes by the two cases of a sum
--     cond-true, cond-false      the first or the second
--     confirmed, refuted         the answer true decides what holds, and false what does not
--     and, or, not               decide a pair, a sum, a negation
--     any_below n f, all_below   decide whether some or each number below n passes the test f
--     first_from k i f           the first of the k numbers from i on that passes, or i + k
--     top_below n f v            the greatest v i of those i below n that pass, or 0
-- Assumes nothing.
use mathlib.Core.Path.{◌≡◌, refl, sym, ap, ◌∙◌, subst}
use mathlib.Core.Bool.{Bool, true, false, cond, not, ◌&&◌, ◌||◌}
use mathlib.Core.Logic.{◌⊎◌, inl, inr}
use Prim.Native.Nat.{ℕ, zero, suc, max, ◌+◌, ◌≤◌, ◌<◌, zero-le}
use native.Mathlib.Nat.{not-suc-le-zero}
use native.Mathlib.Omega.{arith}
use native.Mathlib.Decide.{ℕ_discrete, dec_lt}
use lib.Dec.{T, eqb, leb, ltb}
use borrow.Author.Tests.{eqb-true, eqb-false, leb-true, leb-false, ltb-true, ltb-false, not-true, not-false}
use Rattle.relief.specs.Inner.{Decides}

pub split : {A B C : Type 0} → A ⊎ B → (A → C) → (B → C) → C
split (inl a) f g = f a
split (inr b) f g = g b

pub cond-true : (b : Bool) (u v : ℕ) → b ≡ true → cond b u v ≡ u
cond-true b u v e = simp e

pub cond-false : (b : Bool) (u v : ℕ) → b ≡ false → cond b u v ≡ v
cond-false b u v e = simp e

-- the two cases of a decided statement, and of a test
pub decide : {A : Type 0} {b : Bool} → Decides A b → A ⊎ (A → ⊥)
decide {b = true} d = inl (d.holds refl)
decide {b = false} d = inr (d.fails refl)

pub test : (b : Bool) → (b ≡ true) ⊎ (b ≡ false)
test true = inl refl
test false = inr refl

pub true-not-false : {A : Type 0} {b : Bool} → b ≡ true → b ≡ false → A
true-not-false e f = absurd (subst T (sym e ∙ f) tt)

-- a statement that holds passes its test, one that fails doesn't
pub passes : {A : Type 0} {b : Bool} → Decides A b → A → b ≡ true
passes {b = true} d a = refl
passes {b = false} d a = absurd (d.fails refl a)

pub declines : {A : Type 0} {b : Bool} → Decides A b → (A → ⊥) → b ≡ false
declines {b = true} d n = absurd (n (d.holds refl))
declines {b = false} d n = refl

-- what an answer decides, and what a negated test tells
pub confirmed : {A : Type 0} → A → Decides A true
confirmed a = record { holds = λ e. a; fails = λ e. true-not-false refl e }

pub refuted : {A : Type 0} → (A → ⊥) → Decides A false
refuted n = record { holds = λ e. true-not-false e refl; fails = λ e. n }

-- ---- tests of numbers

pub eq-decides : (a b : ℕ) → Decides (a ≡ b) (eqb a b)
eq-decides a b = record { holds = eqb-true a b; fails = eqb-false a b }

pub le-decides : (a b : ℕ) → Decides (a ≤ b) (leb a b)
le-decides a b = record { holds = leb-true a b; fails = λ e h. let g : b < a = leb-false a b e in omega arith }

pub lt-decides : (a b : ℕ) → Decides (a < b) (ltb a b)
lt-decides a b = record { holds = ltb-true a b; fails = λ e h. let g : b ≤ a = ltb-false a b e in omega arith }

-- ---- tests of tests

pub and-true : (a b : Bool) → (a && b) ≡ true → (a ≡ true) × (b ≡ true)
and-true true b e = (refl, e)
and-true false b e = true-not-false e refl

pub or-false : (a b : Bool) → (a || b) ≡ false → (a ≡ false) × (b ≡ false)
or-false true b e = true-not-false refl e
or-false false b e = (refl, e)

pub or-true : {a b : Bool} → (a || b) ≡ true → (a ≡ true) ⊎ (b ≡ true)
or-true {a = true} e = inl refl
or-true {a = false} e = inr e

pub or_left : (a b : Bool) → a ≡ true → (a || b) ≡ true
or_left a b e = rw e refl

pub or_right : (a b : Bool) → b ≡ true → (a || b) ≡ true
or_right true b e = refl
or_right false b e = e

pub and-decides : {A B : Type 0} {a b : Bool} → Decides A a → Decides B b → Decides (A × B) (a && b)
and-decides {a = true} p q = record {
  holds = λ e. (p.holds refl, q.holds e);
  fails = λ e h. q.fails e h.1;
}
and-decides {a = false} p q = record {
  holds = λ e. true-not-false e refl;
  fails = λ e h. p.fails refl h.0;
}

pub or-decides : {A B : Type 0} {a b : Bool} → Decides A a → Decides B b → Decides (A ⊎ B) (a || b)
or-decides {a = true} p q = record {
  holds = λ e. inl (p.holds refl);
  fails = λ e. true-not-false refl e;
}
or-decides {a = false} p q = record {
  holds = λ e. inr (q.holds e);
  fails = λ e s. split s (p.fails refl) (q.fails e);
}

pub not-decides : {A : Type 0} {b : Bool} → Decides A b → Decides (A → ⊥) (not b)
not-decides {b} d = record {
  holds = λ e. d.fails (not-true b e);
  fails = λ e n. n (d.holds (not-false b e));
}

pub decides-iff : {A B : Type 0} {b : Bool} → (A → B) → (B → A) → Decides A b → Decides B b
decides-iff f g d = record { holds = λ e. f (d.holds e); fails = λ e h. d.fails e (g h) }

-- ---- tests of all numbers below one

abbrev pub any_below : ℕ → (ℕ → Bool) → Bool
any_below zero f = false
any_below (suc n) f = f n || any_below n f

abbrev pub all_below : ℕ → (ℕ → Bool) → Bool
all_below zero f = true
all_below (suc n) f = f n && all_below n f

abbrev pub first_from : ℕ → ℕ → (ℕ → Bool) → ℕ
first_from zero i f = i
first_from (suc k) i f = elim (f i) [ true ↦ i | false ↦ first_from k (suc i) f ]

pub le-or-lt : (a b : ℕ) → (a ≤ b) ⊎ (b < a)
le-or-lt a b = go (dec_lt b a)
  where
    go : Dec (b < a) → (a ≤ b) ⊎ (b < a)
    go (yes l) = inr l
    go (no l) = inl (omega arith)

-- The numbers below n + 1 are those below n, and n.
pub below_suc : (i n : ℕ) → i < suc n → (i ≡ n) ⊎ (i < n)
below_suc i n h = go (ℕ_discrete i n)
  where
    go : Dec (i ≡ n) → (i ≡ n) ⊎ (i < n)
    go (yes e) = inl e
    go (no d) = inr (omega arith)

module _ {P : ℕ → Type 0} {f : ℕ → Bool} (d : (i : ℕ) → Decides (P i) (f i)) where
  pub any-decides : (n : ℕ) → Decides ((i : ℕ) × (i < n) × P i) (any_below n f)
  any-decides zero = record { holds = λ e. true-not-false e refl; fails = λ e s. absurd (not-suc-le-zero s.1) }
  any-decides (suc n) = decides-iff some part (or-decides (d n) (any-decides n))
    where
      some : P n ⊎ ((i : ℕ) × (i < n) × P i) → (i : ℕ) × (i < suc n) × P i
      some s = split s (λ p. (n, omega arith, p)) (λ q. (q.0, omega arith, q.2))

      part : ((i : ℕ) × (i < suc n) × P i) → P n ⊎ ((i : ℕ) × (i < n) × P i)
      part q = split (below_suc q.0 n q.1) (λ e. inl (subst P e q.2)) (λ h. inr (q.0, h, q.2))

  pub all-decides : (n : ℕ) → Decides ((i : ℕ) → i < n → P i) (all_below n f)
  all-decides zero = record { holds = λ e i h. absurd (not-suc-le-zero h); fails = λ e. true-not-false refl e }
  all-decides (suc n) = decides-iff all part (and-decides (d n) (all-decides n))
    where
      all : P n × ((i : ℕ) → i < n → P i) → (i : ℕ) → i < suc n → P i
      all q i h = split (below_suc i n h) (λ e. subst P (sym e) q.0) (q.1 i)

      part : ((i : ℕ) → i < suc n → P i) → P n × ((i : ℕ) → i < n → P i)
      part g = (g n (omega arith), λ i h. g i (omega arith))

  -- ---- the first that passes

  pub record First (i r k : ℕ) : Type 0 where
    pub from : i ≤ r
    pub to : r ≤ i + k
    pub none : (j : ℕ) → i ≤ j → j < r → P j → ⊥
    pub found : r < i + k → P r

  pub first-from : (k i : ℕ) → First i (first_from k i f) k
  first-from zero i = record {
    from = omega arith;
    to = omega arith;
    none = λ j l h p. omega arith;
    found = λ h. absurd (omega arith);
  }
  first-from (suc k) i = go (f i) (d i) (first-from k (suc i))
    where
      go : (b : Bool) → Decides (P i) b → First (suc i) (first_from k (suc i) f) k
          → First i (elim b [ true ↦ i | false ↦ first_from k (suc i) f ]) (suc k)
      go true p h = record {
        from = omega arith;
        to = omega arith;
        none = λ j l m q. omega arith;
        found = λ m. p.holds refl;
      }
      go false p h = record {
        from = let l = h.from in omega arith;
        to = let l = h.to in omega arith;
        none =
            λ j l m q. split (below_suc i j (omega arith)) (λ e. p.fails refl (subst P (sym e) q))
            (λ o. h.none j o m q);
        found = λ m. h.found (omega arith);
      }

  pub earliest : (n i : ℕ) → i < n → P i → (r : ℕ) × (r ≤ i) × P r × ((j : ℕ) → P j → r ≤ j)
  earliest n i h p = go (first-from n 0)
    where
      go : First 0 (first_from n 0 f) n → (r : ℕ) × (r ≤ i) × P r × ((j : ℕ) → P j → r ≤ j)
      go w =
          let r = first_from n 0 f in
          let before : (j : ℕ) → P j → r ≤ j =
          λ j q. split (le-or-lt r j) (λ l. l) (λ l. absurd (w.none j zero-le l q)) in
          (r, before i p, w.found (omega (arith, before i p)), before)

-- ---- the greatest value of those that pass

abbrev pub top_below : ℕ → (ℕ → Bool) → (ℕ → ℕ) → ℕ
top_below zero f v = 0
top_below (suc n) f v = elim (f n) [ true ↦ max (v n) (top_below n f v) | false ↦ top_below n f v ]

pub record Top (n : ℕ) (f : ℕ → Bool) (v : ℕ → ℕ) (t : ℕ) : Type 0 where
  pub upper : (i : ℕ) → i < n → f i ≡ true → v i ≤ t
  pub attained : 0 < t → (i : ℕ) × (i < n) × (f i ≡ true) × (v i ≡ t)

pub top_below_lem : (n : ℕ) (f : ℕ → Bool) (v : ℕ → ℕ) → Top n f v (top_below n f v)
top_below_lem zero f v = record {
  upper = λ i h. absurd (not-suc-le-zero h);
  attained = λ h. absurd (not-suc-le-zero h);
}
top_below_lem (suc n) f v = go (f n) refl (top_below_lem n f v)
  where
    go : (b : Bool) → f n ≡ b → Top n f v (top_below n f v)
        → Top (suc n) f v (elim b [ true ↦ max (v n) (top_below n f v) | false ↦ top_below n f v ])
    go true e h = record {
      upper =
          λ i l p. split (below_suc i n l) (λ m. let q : v i ≡ v n = ap v m in omega arith)
          (λ m. omega (arith, h.upper i m p));
      attained = λ l. split (le-or-lt (top_below n f v) (v n))
          (λ m. (n, omega arith, e, omega arith))
          (λ m. let q = h.attained (omega arith) in (q.0, omega arith, q.2, omega arith));
    }
    go false e h = record {
      upper =
          λ i l p. split (below_suc i n l) (λ m. true-not-false (subst (λ (j : ℕ). f j ≡ true) m p) e)
          (λ m. h.upper i m p);
      attained = λ l. let q = h.attained l in (q.0, omega arith, q.2, q.3);
    }
