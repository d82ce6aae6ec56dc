-- What a cell of a row of heights holds.
--     at-any      within a row the default is not read
--     fetched     what a call hands back of a row, as a local holds it
-- Assumes nothing.
use mathlib.Core.List.{List, [], ◌∷◌}
use mathlib.Core.Path.{◌≡◌, refl, sym, ap, ◌∙◌}
use Prim.Native.Nat.{ℕ, zero, suc, ◌<◌}
use native.Mathlib.Omega.{arith}
use lib.IntN.{ℤ}
use lib.ListN.{length, get_or}
use mir.Syntax.{w32}
use mir.Val.{SFits, to_z, of_z}
use mir.ValLaws.{to_z-of_z}
use Rattle.relief.specs.Heights.{BLANK}

pub at-any : {A : Type 0} (xs : List A) (i : ℕ) (d e : A) → i < length xs → get_or xs i d ≡ get_or xs i e
at-any [] i d e h = absurd (omega arith)
at-any (x ∷ xs) zero d e h = refl
at-any (x ∷ xs) (suc i) d e h = at-any xs i d e (omega arith)

pub fetched :
    (hs : List ℤ) {z : ℤ} {i k : ℕ} → SFits w32 z → z ≡ get_or hs i BLANK → i ≡ k →
    get_or hs k BLANK ≡ to_z w32 (of_z w32 z)
fetched hs {z} fits e d = ap (λ (n : ℕ). get_or hs n BLANK) (sym d) ∙ sym e ∙ sym (to_z-of_z w32 z fits)
