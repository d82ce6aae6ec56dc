-- Which cells are those of listed peaks, as the work area tells it.
--     listed-land, listed-root, listed-key     a listed cell is land, a root is listed, another's pass is lower
--     test-apart                               cells of which a test tells two things are two
--     listed_same                              what is not read may change
-- Assumes nothing.
use mathlib.Core.Path.{◌≡◌, refl, sym, ◌∙◌, subst}
use mathlib.Core.Bool.{Bool, true, false}
use mathlib.Core.List.{List}
use Prim.Native.Nat.{ℕ, ◌+◌, ◌*◌, ◌<◌}
use native.Mathlib.Omega.{arith}
use lib.Dec.{eqb}
use Rattle.relief.proofs.Tests.{split, le-or-lt, true-not-false}
use Rattle.words.specs.Words.{word_at}
use Rattle.area.specs.Area.{level_in, parent_in, pass_of, cell_in}
use Rattle.choice.specs.declared.Part.TheVariants.{Whole}
use Rattle.choice.specs.Inner.{chosen_in, listed_in}
use Rattle.choice.proofs.ChosenCells.{chosen-blank, chosen-top, chosen-slope}
use Rattle.kin.specs.Inner.{listed}

module _ (s : List ℕ) (n T c : ℕ) where
  pub listed-land : listed s n T c ≡ true → 0 < level_in s c
  listed-land e =
      split (le-or-lt (level_in s c) 0)
      (λ l. true-not-false e (sym (chosen-blank s n T Whole c (omega arith)))) (λ l. l)

  pub listed-root : 0 < level_in s c → parent_in s n c ≡ c → listed s n T c ≡ true
  listed-root l e = sym (chosen-top s n T Whole c l e refl refl)

  pub listed-key : listed s n T c ≡ true → (parent_in s n c ≡ c → ⊥) → level_in s (pass_of s n c) < level_in s c
  listed-key e d =
      split (le-or-lt (level_in s c) (level_in s (pass_of s n c)))
      (λ l. true-not-false e (sym (chosen-slope s n T Whole c (listed-land e) d l))) (λ l. l)

-- cells of which a test tells two things are two
pub test-apart : (f : ℕ → Bool) {d x : ℕ} → f d ≡ true → f x ≡ false → d ≡ x → ⊥
test-apart f e g q = true-not-false (subst (λ (c : ℕ). f c ≡ true) q e) g

-- t tells the same of c as s
module _ (s t : List ℕ) (n T c : ℕ) (level : level_in t c ≡ level_in s c)
    (pass : 0 < level_in s c → pass_of t n c ≡ pass_of s n c)
    (key : 0 < level_in s c → level_in t (pass_of s n c) ≡ level_in s (pass_of s n c))
    (root : 0 < level_in s c → eqb (parent_in t n c) c ≡ eqb (parent_in s n c) c) where
  pub listed_same : listed t n T c ≡ listed s n T c
  unfolding chosen_in listed_in
  listed_same =
      split (le-or-lt (level_in s c) 0)
      (λ l. sym (chosen-blank t n T Whole c (omega arith)) ∙ chosen-blank s n T Whole c (omega arith))
      (λ l.
      let e : word_at t c ≡ word_at s c = level in
      let f : cell_in (word_at t (3 * n + c)) ≡ cell_in (word_at s (3 * n + c)) = pass l in
      let g : word_at t (cell_in (word_at s (3 * n + c))) ≡ word_at s (cell_in (word_at s (3 * n + c))) = key l in
      let h : eqb (word_at t (2 * n + c)) c ≡ eqb (word_at s (2 * n + c)) c = root l in
      rw (f, g, e, h))
