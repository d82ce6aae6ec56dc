-- Rows that grow by an item at a time, and a lent row that is filled with one from the front.
--     Grows row item n       the row `row i` has the first i of the items, up to n of them
--     grows-length, grows_at   its length, and its items
--     take-grows             the fronts of a row are a row that grows
--     filled row t i         the row t with the first i items in place of its own
--     filled-start, filled-step   it is t at 0, and one more item stored makes it that of i + 1
--     filled-next            the same of a row and an item that are equal to those
-- Assumes nothing.
use mathlib.Core.List.{List, [], ◌∷◌, ◌++◌}
use mathlib.Core.Path.{◌≡◌, refl, sym, ap, ◌∙◌}
use Prim.Native.Nat.{ℕ, zero, suc, ◌+◌, ◌≤◌, ◌<◌}
use native.Mathlib.Decide.{dec_lt}
use native.Mathlib.Numerals.{add-one}
use native.Mathlib.Omega.{arith}
use lib.ListN.{length, get_or, set, take, drop, length-append, get_or-append}
use lib.Seq.{get_or_at, drop-cons, set_at, append_snoc, take-suc}

pub record Grows {A : Type 0} (row : ℕ → List A) (item : ℕ → A) (n : ℕ) : Type 0 where
  pub start : row 0 ≡ []
  pub next : (i : ℕ) → i < n → row (suc i) ≡ row i ++ (item i ∷ [])

pub take-grows : {A : Type 0} (xs : List A) (d : A) → Grows (λ i. take i xs) (λ i. get_or xs i d) (length xs)
take-grows xs d = record { start = refl; next = λ i l. take-suc xs i d l }

abbrev pub filled : {A : Type 0} → (ℕ → List A) → List A → ℕ → List A
filled row t i = row i ++ drop i t

module _ {A : Type 0} {row : ℕ → List A} {item : ℕ → A} {n : ℕ} (g : Grows row item n) where
  pub grows-length : (m : ℕ) → m ≤ n → length (row m) ≡ m
  grows-length zero l = ap length g.start
  grows-length (suc m) l =
      ap length (g.next m l) ∙ length-append (row m) (item m ∷ []) ∙ omega (arith, grows-length m (omega arith))

  pub grows_at : (d : A) (m i : ℕ) → m ≤ n → i < m → get_or (row m) i d ≡ item i
  grows_at d zero i l h = absurd (omega arith)
  grows_at d (suc m) i l h =
      let len = grows-length m (omega arith) in
      let ih : i < m → get_or (row m) i d ≡ item i = grows_at d m i (omega arith) in
      ap (λ (r : List A). get_or r i d) (g.next m l)
      ∙ elim (dec_lt i m) [
        | yes k ↦ get_or-append (row m) (item m ∷ []) d i (omega arith) ∙ ih k
        | no k ↦
            let e : i ≡ m = omega arith in
            rw e (get_or_at (row m) (item m) [] d m len)
      ]

  pub filled-start : (t : List A) → filled row t 0 ≡ t
  filled-start t = ap (λ (r : List A). r ++ t) g.start

  pub filled-step : (t : List A) (i : ℕ) → i < n → i < length t → set (filled row t i) i (item i) ≡ filled row t (i + 1)
  filled-step t i l h =
      ap (λ (r : List A). set (row i ++ r) i (item i)) (drop-cons t i (item i) h)
      ∙ set_at (row i) (get_or t i (item i)) (drop (suc i) t) (item i) i (grows-length i (omega arith))
      ∙ sym (append_snoc (row i) (item i) (drop (suc i) t))
      ∙ ap (λ (r : List A). r ++ drop (suc i) t) (sym (g.next i l)) ∙ ap (filled row t) (sym (add-one i))

  pub filled-next : (t : List A) (i : ℕ) → i < n → i < length t → (u : List A) (x : A) → u ≡ filled row t i
      → x ≡ item i → set u i x ≡ filled row t (i + 1)
  filled-next t i l h u x e f =
      ap (λ (r : List A). set r i x) e ∙ ap (λ (y : A). set (filled row t i) i y) f ∙ filled-step t i l h
