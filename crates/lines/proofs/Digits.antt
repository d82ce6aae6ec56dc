-- Digits put into bytes, from the last to the first: the invariant of the loop of `put_digits`, and its laws.
--     Digits s at v t place rest     the digits of v are those of the rest, which belong at `at`, and some behind them;
--                                    t is s with those behind them at their place
--     digits-place, digits-fits, digits-length    a digit is left; those laid fit; the length stays
--     digits-start, digits-pair, digits-one, digits-two    the loop begins, goes on, ends with a digit or with two
-- Assumes nothing.
use mathlib.Core.Path.{◌≡◌, refl, sym, ap, ◌∙◌, subst, subst₂}
use mathlib.Core.List.{List, [], ◌∷◌, ◌++◌, append-nil}
use Prim.Native.Nat.{ℕ, suc, ◌+◌, ◌-◌, ◌/◌, ◌%◌, ◌≤◌, ◌<◌}
use native.Mathlib.Decide.{dec_lt}
use native.Mathlib.Omega.{arith}
use lib.ListN.{length, set, length-append}
use lib.Seq.{append_snoc}
use Rattle.relief.specs.Outline.{decimal_of}
use Rattle.words.specs.Words.{over}
use Rattle.words.proofs.Over.{over_none, over-length, over-ahead}
use Rattle.lines.proofs.Decimal.{decimal-small, decimal-one, decimal-more, length_more}

pub record Digits (s : List ℕ) (at v : ℕ) (t : List ℕ) (place rest : ℕ) : Type 0 where
  pub fits : at + length (decimal_of v) ≤ length s
  pub behind : List ℕ
  pub split : decimal_of v ≡ decimal_of rest ++ behind
  pub near : place ≡ at + length (decimal_of rest)
  pub laid : t ≡ over s place behind

pub digits-start : (s : List ℕ) (at v : ℕ) {count : ℕ} → count ≡ length (decimal_of v) → at + count ≤ length s
    → Digits s at v s (at + count) v
digits-start s at v {count} e l = record {
  fits = omega arith;
  behind = [];
  split = sym (append-nil (decimal_of v));
  near = ap (λ (k : ℕ). at + k) e;
  laid = over_none s (at + count);
}

module _ {s : List ℕ} {at v : ℕ} {t : List ℕ} {place rest : ℕ} (d : Digits s at v t place rest) where
  pub digits-place : at < place
  digits-place = elim (dec_lt rest 10) [
    | yes l ↦ omega (arith, d.near, decimal-one rest l)
    | no l ↦ omega (arith, d.near, length_more rest (omega arith))
  ]

  pub digits-fits : place + length d.behind ≤ length s
  digits-fits =
      omega (arith, d.fits, d.near, ap length d.split, length-append (decimal_of rest) d.behind)

  pub digits-length : length t ≡ length s
  digits-length = ap length d.laid ∙ over-length s place d.behind digits-fits

  -- a byte stored before those laid
  ahead : (before b : ℕ) → place ≡ suc before → set t before b ≡ over s before (b ∷ d.behind)
  ahead before b e =
      ap (λ (u : List ℕ). set u before b) d.laid ∙ over-ahead s before place b d.behind e digits-fits

  digits_step : 10 ≤ rest → {b : ℕ} → b ≡ 48 + rest % 10
      → Digits s at v (set t (place - 1) b) (place - 1) (rest / 10)
  digits_step l {b} e =
      let last = length_more rest l in
      let p = digits-place in
      record {
        fits = d.fits;
        behind = b ∷ d.behind;
        split =
            d.split ∙ ap (λ (k : List ℕ). k ++ d.behind) (decimal-more rest l)
            ∙ append_snoc (decimal_of (rest / 10)) (48 + rest % 10) d.behind
            ∙ ap (λ (x : ℕ). decimal_of (rest / 10) ++ x ∷ d.behind) (sym e);
        near = omega (arith, d.near);
        laid = ahead (place - 1) b (omega arith);
      }

  pub digits-one : rest < 10 → {b : ℕ} → b ≡ 48 + rest → set t at b ≡ over s at (decimal_of v)
  digits-one l {b} e =
      let last : place ≡ suc at = omega (arith, d.near, decimal-one rest l) in
      let whole : b ∷ d.behind ≡ decimal_of v =
      ap (λ (x : ℕ). x ∷ d.behind) e
      ∙ ap (λ (k : List ℕ). k ++ d.behind) (sym (decimal-small rest l))
      ∙ sym d.split in
      ahead at b last ∙ ap (over s at) whole

-- two digits, the last of them first
module _ {s : List ℕ} {at v : ℕ} {t : List ℕ} {place rest : ℕ} (d : Digits s at v t place rest) where
  pub place-two : 10 ≤ rest → at + 1 < place
  place-two l = omega (arith, d.near, length_more rest l, digits-place (digits_step d l refl))

  pub digits-pair : 100 ≤ rest → {a b : ℕ} → b ≡ 48 + rest % 100 % 10 → a ≡ 48 + rest % 100 / 10
      → Digits s at v (set (set t (place - 2 + 1) b) (place - 2) a) (place - 2) (rest / 100)
  digits-pair l {a} {b} eb ea =
      let p = place-two (omega arith) in
      let e : place - 1 ≡ place - 2 + 1 = omega arith in
      let f : place - 1 - 1 ≡ place - 2 = omega arith in
      let g : rest / 10 / 10 ≡ rest / 100 = omega arith in
      let one = digits_step d (omega arith) {b = b} (omega arith) in
      let two = digits_step one (omega arith) {b = a} (omega arith) in
      subst (λ (i : ℕ). Digits s at v (set (set t i b) (place - 2) a) (place - 2) (rest / 100)) e
      (subst₂ (λ (j r : ℕ). Digits s at v (set (set t (place - 1) b) j a) j r) f g two)

  pub digits-two : 10 ≤ rest → rest < 100 → {a b : ℕ} → b ≡ 48 + rest % 10 → a ≡ 48 + rest / 10
      → set (set t (at + 1) b) at a ≡ over s at (decimal_of v)
  digits-two l m {a} {b} eb ea =
      let one = digits_step d l {b = b} eb in
      let e : place - 1 ≡ at + 1 = omega (arith, one.near, decimal-one (rest / 10) (omega arith)) in
      subst (λ (i : ℕ). set (set t i b) at a ≡ over s at (decimal_of v)) e (digits-one one (omega arith) ea)
