-- Laws of rows: of bytes, of heights and of records, written and read. With `Files` the only file of this crate
-- that unfolds `fields_of`, `heights_from` and `peaks_from`, but for the proofs of the functions that put them.
--     four-length, four-append, four-at        rows made of pieces of four
--     bytes-length, bytes-append, bytes-at     the bytes of a row of numbers; bytes_word, a number of it
--     record-four                              a record has four numbers
--     heights-grow, heights-length, heights-at heights read from bytes
--     peaks-grow, peaks-length, peaks-at       records read from bytes
-- Assumes nothing.
use Rattle.std.proofs.Common.{◌≡◌, ℕ, zero, suc, ◌+◌, ◌*◌, ◌<◌, List, [], ◌∷◌, ◌++◌, length, get_or, sym, refl, ap, ◌∙◌}
use Rattle.std.proofs.Common.{append_assoc, arith, length-append, get_or-append-add}
use mathlib.Core.List.{flat_map}
use lib.ListN.{get_or-append}
use Rattle.relief.specs.Heights.{BLANK}
use Rattle.record.specs.declared.Peak.{Peak}
use Rattle.words.specs.Words.{word_at}
use Rattle.layout.specs.Layout.{signed_of, word_of, bytes_of, fields_of, heights_from}
use Rattle.layout.specs.Layout.{peak_from, peaks_from}
use Rattle.sound.specs.Sound.{ith_of}
use Rattle.table.proofs.Grows.{Grows, grows-length, grows_at}

-- ---- pieces of four

module _ {A : Type 0} (f : A → List ℕ) (four : (a : A) → length (f a) ≡ 4) where
  pub four-length : (xs : List A) → length (flat_map f xs) ≡ 4 * length xs
  unfolding flat_map
  four-length [] = refl
  four-length (a ∷ xs) =
      length-append (f a) (flat_map f xs) ∙ omega (arith, four a, four-length xs)

  pub four-append : (xs ys : List A) → flat_map f (xs ++ ys) ≡ flat_map f xs ++ flat_map f ys
  unfolding flat_map
  four-append [] ys = refl
  four-append (a ∷ xs) ys = rw (four-append xs ys) (sym (append_assoc (f a) (flat_map f xs) (flat_map f ys)))

  pub four-at :
      (xs : List A) (d : A) (i r : ℕ) → i < length xs → r < 4 →
      get_or (flat_map f xs) (4 * i + r) 0 ≡ get_or (f (get_or xs i d)) r 0
  unfolding flat_map
  four-at [] d i r h l = absurd (omega arith)
  four-at (a ∷ xs) d zero r h l =
      let place : 4 * 0 + r ≡ r = omega arith in
      ap (λ (k : ℕ). get_or (f a ++ flat_map f xs) k 0) place
      ∙ get_or-append (f a) (flat_map f xs) 0 r (omega (arith, four a))
  four-at (a ∷ xs) d (suc i) r h l =
      let place : 4 * suc i + r ≡ length (f a) + (4 * i + r) = omega (arith, four a) in
      ap (λ (k : ℕ). get_or (f a ++ flat_map f xs) k 0) place
      ∙ get_or-append-add (f a) (flat_map f xs) (4 * i + r) 0
      ∙ four-at xs d i r (omega arith) l

-- ---- numbers and their bytes

word-four : (v : ℕ) → length (word_of v) ≡ 4
unfolding word_of
word-four v = refl

pub bytes-length : (vs : List ℕ) → length (bytes_of vs) ≡ 4 * length vs
bytes-length = four-length word_of word-four

pub bytes-append : (xs ys : List ℕ) → bytes_of (xs ++ ys) ≡ bytes_of xs ++ bytes_of ys
bytes-append = four-append word_of word-four

pub bytes-at :
    (vs : List ℕ) (i r : ℕ) → i < length vs → r < 4 → get_or (bytes_of vs) (4 * i + r) 0 ≡ get_or
    (word_of (get_or vs i 0)) r 0
bytes-at vs i r = four-at word_of word-four vs 0 i r

pub bytes_word : (vs : List ℕ) (i : ℕ) → i < length vs → word_at (bytes_of vs) i ≡ get_or vs i 0
unfolding word_at word_of
bytes_word vs i h =
    let v = get_or vs i 0 in
    let place : 4 * i + 0 ≡ 4 * i = omega arith in
    let e = bytes-at vs i 0 h (omega arith) in
    omega (
      arith,
      rw place at e,
      bytes-at vs i 1 h (omega arith),
      bytes-at vs i 2 h (omega arith),
      bytes-at vs i 3 h (omega arith),
    )

pub record-four : (p : Peak) → length (fields_of p) ≡ 4
unfolding fields_of
record-four p = refl

-- ---- rows read item by item

pub heights-grow : (s : List ℕ) (at n : ℕ) → Grows (heights_from s at) (λ i. signed_of (word_at s (at + i))) n
unfolding heights_from
heights-grow s at n = record { start = refl; next = λ i l. refl }

pub heights-length : (s : List ℕ) (at n : ℕ) → length (heights_from s at n) ≡ n
heights-length s at n = grows-length (heights-grow s at n) n (omega arith)

pub heights-at : (s : List ℕ) (at n i : ℕ) → i < n → get_or (heights_from s at n) i BLANK ≡ signed_of
    (word_at s (at + i))
heights-at s at n i h = grows_at (heights-grow s at n) BLANK n i (omega arith) h

pub peaks-grow : (s : List ℕ) (at n : ℕ) → Grows (peaks_from s at) (λ i. peak_from s (at + 4 * i)) n
unfolding peaks_from
peaks-grow s at n = record { start = refl; next = λ i l. refl }

pub peaks-length : (s : List ℕ) (at n : ℕ) → length (peaks_from s at n) ≡ n
peaks-length s at n = grows-length (peaks-grow s at n) n (omega arith)

pub peaks-at : (s : List ℕ) (at n i : ℕ) → i < n → ith_of (peaks_from s at n) i ≡ peak_from s (at + 4 * i)
unfolding ith_of
peaks-at s at n i h = grows_at (peaks-grow s at n) _ n i (omega arith) h
