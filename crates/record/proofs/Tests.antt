-- Orders of refusals: laws of `first_of`, the one file that unfolds it.
--     Passed tests               none of the tests applies
--     first-passed               where none refuses, none applies, ..
--     first_good                 .. and the other way round
--     first-end                  where none of the tests applies, one more at the end decides
--     first-before, first-at     a refusal comes before all behind it; a test is the first where none before it applies
--     told-by                    what a call tells by the answer of its tests
--     granted-good               a call that is granted has passed them
-- Assumes nothing.
use mathlib.Core.Path.{◌≡◌, refl, sym, ◌∙◌, ap}
use mathlib.Core.Bool.{Bool, true, false, cond}
use mathlib.Core.List.{List, [], ◌∷◌, ◌++◌}
use Prim.Native.Nat.{ℕ}
use Rattle.std.specs.Prelude.{Result, Ok, Err, is_ok}
use Rattle.relief.proofs.Tests.{true-not-false}
use Rattle.record.specs.declared.Refusal.{Refusal}
use Rattle.record.specs.Refusals.{Told, granted, checked_told, first_of, told_by}
use Rattle.record.proofs.Refusals.{told-refused}

abbrev pub Passed : List (Bool × Refusal) → Type 0
Passed [] = Unit {0}
Passed (test ∷ tests) = (test.0 ≡ false) × Passed tests

-- Ok and Err are two
pub bad-not-good : {A : Type 0} {c : Result (Unit {0}) Refusal} {r : Refusal} → c ≡ Err r → c ≡ Ok tt → A
bad-not-good e f = true-not-false (ap is_ok f) (ap is_ok e)

pub first-before : (before rest : List (Bool × Refusal)) {q : Refusal} → first_of before ≡ Err q
    → first_of (before ++ rest) ≡ Err q
unfolding first_of
first-before [] rest e = bad-not-good e refl
first-before (test ∷ before) rest {q} e = go test.0 (first-before before rest) e
  where
    go : (b : Bool) → (first_of before ≡ Err q → first_of (before ++ rest) ≡ Err q)
        → cond b (Err test.1) (first_of before) ≡ Err q → cond b (Err test.1) (first_of (before ++ rest)) ≡ Err q
    go true f g = g
    go false f g = f g

-- ---- what the answer tells of the tests

pub first-passed : (tests : List (Bool × Refusal)) → first_of tests ≡ Ok tt → Passed tests
unfolding first_of
first-passed [] e = tt
first-passed (test ∷ tests) e = go (first-passed tests) test.0 refl e
  where
    go : (first_of tests ≡ Ok tt → Passed tests) → (b : Bool) → test.0 ≡ b
        → cond b (Err test.1) (first_of tests) ≡ Ok tt → (test.0 ≡ false) × Passed tests
    go rest true f g = bad-not-good refl g
    go rest false f g = (f, rest g)

pub first_good : (tests : List (Bool × Refusal)) → Passed tests → first_of tests ≡ Ok tt
unfolding first_of
first_good [] p = refl
first_good (test ∷ tests) p =
    ap (λ (b : Bool). cond b (Err test.1) (first_of tests)) p.0 ∙ first_good tests p.1

pub first-end : (tests : List (Bool × Refusal)) (b : Bool) (r : Refusal) → first_of tests ≡ Ok tt
    → first_of (tests ++ ((b, r) ∷ [])) ≡ cond b (Err r) (Ok tt)
unfolding first_of
first-end [] b r e = refl
first-end (test ∷ tests) b r e = go (first-end tests b r) test.0 e
  where
    go : (first_of tests ≡ Ok tt → first_of (tests ++ ((b, r) ∷ [])) ≡ cond b (Err r) (Ok tt)) → (a : Bool)
        → cond a (Err test.1) (first_of tests) ≡ Ok tt
        → cond a (Err test.1) (first_of (tests ++ ((b, r) ∷ []))) ≡ cond b (Err r) (Ok tt)
    go rest true f = bad-not-good refl f
    go rest false f = rest f

pub first-at : (before : List (Bool × Refusal)) → Passed before → (b : Bool) (r : Refusal)
    (rest : List (Bool × Refusal)) → b ≡ true → first_of (before ++ ((b, r) ∷ rest)) ≡ Err r
unfolding first_of
first-at [] p b r rest e = ap (λ (x : Bool). cond x (Err r) (first_of rest)) e
first-at (test ∷ before) p b r rest e =
    ap (λ (x : Bool). cond x (Err test.1) (first_of (before ++ ((b, r) ∷ rest)))) p.0
    ∙ first-at before p.1 b r rest e

-- ---- what a call tells by its tests

pub told-by : (told : Told) {c d : Result (Unit {0}) Refusal} → c ≡ d → checked_told c told ≡ checked_told d told
told-by told e = ap (λ (c : Result (Unit {0}) Refusal). checked_told c told) e

pub granted-good : (tests : List (Bool × Refusal)) (told : Told) (values : List ℕ)
    → granted values ≡ told_by tests told → first_of tests ≡ Ok tt
granted-good tests told values e = go (first_of tests) e
  where
    go : (c : Result (Unit {0}) Refusal) → granted values ≡ checked_told c told → c ≡ Ok tt
    go (Ok tt) f = refl
    go (Err r) f = told-refused r values (sym f)
