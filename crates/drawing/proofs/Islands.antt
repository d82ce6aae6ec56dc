-- Reached cells put into a row, one after the other.
--     Puts                           the cells below c that pass the test stand at the front of the row
--     puts-start, -left, -put, -done its laws
-- Assumes nothing.
use mathlib.Core.Path.{◌≡◌, refl, sym, ◌∙◌, ap, subst}
use mathlib.Core.Bool.{Bool, true, false, cond}
use mathlib.Core.List.{List, [], ◌∷◌, ◌++◌, append-nil}
use Prim.Native.Nat.{ℕ, suc, ◌+◌, ◌≤◌, ◌<◌}
use native.Mathlib.Numerals.{add-one}
use native.Mathlib.Omega.{arith}
use lib.ListN.{length, set, length-append}
use Rattle.relief.specs.Inner.{row_below}
use Rattle.words.specs.Words.{over}
use Rattle.words.proofs.Over.{over_none, over-front, over-push}
use Rattle.drawing.specs.Drawing.{Filled}

-- ---- one after the other

pub record Puts (f : ℕ → Bool) (row row' : List ℕ) (count c : ℕ) : Type 0 where
  pub few : count ≤ c
  pub counted : count ≡ length (row_below f c)
  pub laid : row' ≡ over row 0 (row_below f c)

-- the next cell is put, or left out
row_put : (f : ℕ → Bool) (c : ℕ) → f c ≡ true → row_below f (suc c) ≡ row_below f c ++ (c ∷ [])
unfolding row_below
row_put f c e = ap (λ (b : Bool). row_below f c ++ cond b (c ∷ []) []) e

row-left : (f : ℕ → Bool) (c : ℕ) → f c ≡ false → row_below f (suc c) ≡ row_below f c
unfolding row_below
row-left f c e = ap (λ (b : Bool). row_below f c ++ cond b (c ∷ []) []) e ∙ append-nil (row_below f c)

pub puts-start : (f : ℕ → Bool) (row : List ℕ) → Puts f row row 0 0
unfolding row_below
puts-start f row = record { few = omega arith; counted = refl; laid = over_none row 0 }

module _ {f : ℕ → Bool} {row row' : List ℕ} {count c : ℕ} (h : Puts f row row' count c) where
  pub puts-left : f c ≡ false → Puts f row row' count (c + 1)
  puts-left e = subst (Puts f row row' count) (sym (add-one c)) (record {
    few = omega (arith, h.few);
    counted = h.counted ∙ ap length (sym (row-left f c e));
    laid = h.laid ∙ ap (over row 0) (sym (row-left f c e));
  })

  pub puts-put : f c ≡ true → c < length row → Puts f row (set row' count c) (count + 1) (c + 1)
  puts-put e l = subst (Puts f row (set row' count c) (count + 1)) (sym (add-one c)) (record {
    few = omega (arith, h.few);
    counted = ap (λ (i : ℕ). i + 1) h.counted
        ∙ sym (ap length (row_put f c e) ∙ length-append (row_below f c) (c ∷ []));
    laid = over-push row 0 (row_below f c) count c h.laid (let e = h.counted in omega arith)
        (omega (arith, h.few)) ∙ ap (over row 0) (sym (row_put f c e));
  })

  pub puts-done : {n : ℕ} → c ≡ n → Filled (row_below f n) row row' count
  puts-done e = record {
    count = h.counted ∙ ap (λ (k : ℕ). length (row_below f k)) e;
    cells_in = h.laid ∙ ap (λ (k : ℕ). over row 0 (row_below f k)) e ∙ over-front row (row_below f _);
  }
