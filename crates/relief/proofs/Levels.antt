-- Laws of heights and levels.
--     height_of-level           the height at a level has this level
--     levels-end, levels-take   behind a grid's end levels are 0, and before a cut they are those of the whole grid
--     cut_below, cut-behind     levels below the limit are as they were, and 0 behind it, ..
--     cut-equal                 .. and no others count
--     cut-land                  a cell at or above a level above 0 is there, and has that level
-- Assumes nothing.
use mathlib.Core.Path.{◌≡◌, refl, sym, ◌∙◌, ap, fun_ext}
use mathlib.Core.Bool.{Bool, true, false}
use mathlib.Core.List.{List}
use Prim.Native.Nat.{ℕ, ◌-◌, ◌≤◌, ◌<◌}
use native.Mathlib.Omega.{arith}
use lib.Dec.{leb}
use lib.IntN.{ℤ, pos, negsuc}
use lib.Signed.{mag}
use lib.ListN.{length, take, get_or-eq_default}
use lib.Seq.{get_or-take}
use borrow.Author.Tests.{leb-true, leb-false, lt-ltb, le-ltb}
use Rattle.relief.specs.Heights.{BLANK, level_of, height_of, levels}
use Rattle.relief.specs.Inner.{cut}
use Rattle.relief.proofs.Tests.{split, le-or-lt}

pub height_of-level : (l : ℕ) → l < 4294967296 → (level_of (height_of l) ≡ l) × (mag (height_of l) < 2147483648)
unfolding height_of level_of
height_of-level l h = go (leb 2147483648 l) refl
  where
    go : (b : Bool) → leb 2147483648 l ≡ b
        → (level_of (elim b [ true ↦ pos (l - 2147483648) | false ↦ negsuc (2147483647 - l) ]) ≡ l)
        × (mag (elim b [ true ↦ pos (l - 2147483648) | false ↦ negsuc (2147483647 - l) ]) < 2147483648)
    go true e = let i = leb-true 2147483648 l e in (omega arith, omega arith)
    go false e = let i = leb-false 2147483648 l e in (omega arith, omega arith)

pub levels-end : (heights : List ℤ) (c : ℕ) → length heights ≤ c → levels heights c ≡ 0
unfolding levels level_of
levels-end heights c h = ap level_of (get_or-eq_default heights BLANK h)

pub levels-take : (heights : List ℤ) (n c : ℕ) → c < n → levels (take n heights) c ≡ levels heights c
unfolding levels
levels-take heights n c l = ap level_of (get_or-take n heights c BLANK l)

pub cut_below : (limit : ℕ) (level : ℕ → ℕ) (c : ℕ) → c < limit → cut limit level c ≡ level c
unfolding cut
cut_below limit level c l = simp (lt-ltb c limit l)

pub cut-behind : (limit : ℕ) (level : ℕ → ℕ) (c : ℕ) → limit ≤ c → cut limit level c ≡ 0
unfolding cut
cut-behind limit level c l = simp (le-ltb c limit l)

-- levels that agree below the limit are one function once cut there
pub cut-equal : (limit : ℕ) (f g : ℕ → ℕ) → ((c : ℕ) → c < limit → f c ≡ g c) → cut limit f ≡ cut limit g
cut-equal limit f g e = fun_ext λ c.
    split (le-or-lt limit c)
    (λ l. cut-behind limit f c l ∙ sym (cut-behind limit g c l))
    (λ l. cut_below limit f c l ∙ e c l ∙ sym (cut_below limit g c l))

pub cut-land : (n : ℕ) (level : ℕ → ℕ) (c : ℕ) {k : ℕ} → 0 < k → k ≤ cut n level c → (c < n) × (k ≤ level c)
cut-land n level c l h =
    split (le-or-lt n c)
    (λ m. let e = cut-behind n level c m in absurd (omega arith))
    (λ m. let e = cut_below n level c m in (m, omega arith))
