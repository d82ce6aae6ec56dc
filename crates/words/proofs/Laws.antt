-- Laws of numbers in bytes.
--     Bytes s          s is a list of bytes, as every lent slice of them is
--     word_below       a number of bytes fits in 32 bits
--     word_bytes       lists that have one number at a place have the same bytes there
--     bytes-beyond     so numbers that stayed from a place on are bytes that stayed
--     store_word       the bytes of a number laid over its place make the number, and leave every other as it was
-- Assumes nothing.
use mathlib.Core.Path.{◌≡◌, refl, sym, subst}
use mathlib.Core.List.{List}
use mathlib.Core.Logic.{inl, inr}
use Prim.Native.Nat.{ℕ, ◌+◌, ◌-◌, ◌*◌, ◌/◌, ◌%◌, ◌≤◌, ◌<◌}
use native.Mathlib.Nat.{add-zero}
use native.Mathlib.Omega.{arith}
use native.Mathlib.Decide.{ℕ_discrete}
use lib.ListN.{length, get_or}
use mir.Syntax.{w8}
use mir.Val.{Fits}
use Rattle.std.specs.Int.{w32, to_le_bytes}
use Rattle.std.proofs.lemmas.Bool.{cases_lt}
use Rattle.words.specs.Words.{word_at, Stored, over}
use Rattle.words.proofs.Over.{over-length, over-before, over-in, over-behind}

abbrev pub Bytes : List ℕ → Type 0
Bytes s = (k : ℕ) → Fits w8 (get_or s k 0)

pub word_below : (s : List ℕ) → Bytes s → (i : ℕ) → word_at s i < 4294967296
unfolding word_at
word_below s b i = omega (arith, b (4 * i), b (4 * i + 1), b (4 * i + 2), b (4 * i + 3))

-- ---- bytes from numbers

module _ (s t : List ℕ) (b : Bytes s) (d : Bytes t) where
  pub word_bytes : (j : ℕ) → word_at t j ≡ word_at s j → (r : ℕ) → r < 4 → get_or t (4 * j + r) 0 ≡ get_or s (4 * j + r)
      0
  unfolding word_at
  word_bytes j e r l =
      let b0 = b (4 * j) in
      let b1 = b (4 * j + 1) in
      let b2 = b (4 * j + 2) in
      let b3 = b (4 * j + 3) in
      let d0 = d (4 * j) in
      let d1 = d (4 * j + 1) in
      let d2 = d (4 * j + 2) in
      let d3 = d (4 * j + 3) in
      elim (ℕ_discrete r 0) [
        | yes q ↦ rw (q, add-zero (4 * j)) (omega arith)
        | no n0 ↦ elim (ℕ_discrete r 1) [
          | yes q ↦ rw q (omega arith)
          | no n1 ↦ elim (ℕ_discrete r 2) [
            | yes q ↦ rw q (omega arith)
            | no n2 ↦ let q : r ≡ 3 = omega arith in rw q (omega arith)
          ]
        ]
      ]

  pub bytes-beyond : (n : ℕ) → ((j : ℕ) → n ≤ j → word_at t j ≡ word_at s j)
      → (i : ℕ) → 4 * n ≤ i → get_or t i 0 ≡ get_or s i 0
  bytes-beyond n same i l =
      let q : i ≡ 4 * (i / 4) + i % 4 = omega arith in
      let h = word_bytes (i / 4) (same (i / 4) (omega arith)) (i % 4) (omega arith) in
      subst (λ (m : ℕ). get_or t m 0 ≡ get_or s m 0) (sym q) h

-- ---- a number stored

-- The bytes of v laid over those of the i-th place.
pub store_word : (s : List ℕ) (i v : ℕ) → 4 * i + 4 ≤ length s → v < 4294967296
    → Stored s (over s (4 * i) (to_le_bytes w32 v)) i v
unfolding word_at
store_word s i v fits below = record {
  here = omega (
    arith,
    at (4 * i) 0 (omega arith) (omega arith),
    at (4 * i + 1) 1 (omega arith) refl,
    at (4 * i + 2) 2 (omega arith) refl,
    at (4 * i + 3) 3 (omega arith) refl,
  );
  there = λ j n. rw (
    other j (4 * j) n (omega arith) (omega arith),
    other j (4 * j + 1) n (omega arith) (omega arith),
    other j (4 * j + 2) n (omega arith) (omega arith),
    other j (4 * j + 3) n (omega arith) (omega arith),
  );
  len = over-length s (4 * i) bs fits;
}
  where
    bs : List ℕ
    bs = to_le_bytes w32 v

    at : (k r : ℕ) → r < 4 → k ≡ 4 * i + r → get_or (over s (4 * i) bs) k 0 ≡ get_or bs r 0
    at k r h e = rw e (over-in s (4 * i) bs fits r h)

    other : (j k : ℕ) → (j ≡ i → ⊥) → 4 * j ≤ k → k < 4 * j + 4 → get_or (over s (4 * i) bs) k 0 ≡ get_or s k 0
    other j k n h l = elim (cases_lt j i) [
      | inl b ↦ over-before s (4 * i) bs fits k (omega arith)
      | inr b ↦
          let q : 4 * i + 4 + (k - (4 * i + 4)) ≡ k = omega arith in
          rw (← q) (over-behind s (4 * i) bs fits (k - (4 * i + 4)))
    ]
