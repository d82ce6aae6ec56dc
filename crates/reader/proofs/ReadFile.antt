-- A file that is read is the file of what it holds: its numbers are where a writer puts them. It unfolds `header_of`,
-- `fields_of`, `file_of` and `peak_from`, as `Files` of `layout` does.
--     read-file    the file of what is read is what was read
-- The header's numbers are as computed, as no test applies; the heights' and records' bits are those of what is read
-- from them; and a byte is a digit of its number. Assumes nothing.
use mathlib.Core.List.{List}
use mathlib.Core.Path.{◌≡◌, refl, sym, ap, ◌∙◌}
use Prim.Native.Nat.{ℕ, zero, suc, ◌+◌, ◌-◌, ◌*◌, ◌/◌, ◌%◌, ◌<◌}
use native.Mathlib.Decide.{dec_lt}
use native.Mathlib.Nat.{mul-div_right}
use native.Mathlib.Omega.{arith}
use lib.IntN.{ℤ}
use lib.ListN.{length, get_or}
use lib.Seq.{ext_get_or}
use Rattle.record.specs.declared.Peak.{Peak}
use Rattle.words.specs.Words.{word_at}
use Rattle.words.proofs.Laws.{word_below}
use Rattle.layout.specs.Layout.{bits_of, word_of, header_of, fields_of, numbers_of, file_of, rows_in, columns_in}
use Rattle.layout.specs.Layout.{peaks_in}
use Rattle.layout.specs.Layout.{cells_in, heights_in, peak_from, record_from, records_from}
use Rattle.layout.proofs.Complement.{bits-signed}
use Rattle.layout.proofs.Rows.{bytes-at, heights-length, heights-at, peaks-length, peaks-at}
use Rattle.layout.proofs.Over.{byte-of-word}
use Rattle.layout.proofs.Files.{numbers-length, numbers-header, numbers-height, numbers-record, file-length}
use Rattle.reader.proofs.ReadAnswer.{Readable}

module _ (f : List ℕ) (bytes : (k : ℕ) → get_or f k 0 < 256) {heights table u : ℕ}
    (can : Readable f heights table u) where
  abbrev hs : List ℤ
  hs = heights_in f (cells_in f)

  abbrev ps : List Peak
  ps = records_from f (cells_in f) (peaks_in f)

  cells_are : length hs ≡ cells_in f
  cells_are = heights-length f 6 (cells_in f)

  peaks-are : length ps ≡ peaks_in f
  peaks-are = peaks-length f (6 + cells_in f) (peaks_in f)

  below : (i : ℕ) → word_at f i < 4294967296
  below i = word_below f (λ k. record { fits = bytes k }) i

  header-same : (j : ℕ) → j < 6 → get_or (header_of (rows_in f) (length hs) (length ps)) j 0 ≡ word_at f j
  unfolding header_of
  header-same zero l = refl
  header-same (suc zero) l =
      let h : 0 < rows_in f = omega (arith, can.whole.some) in
      ap (λ (n : ℕ). n / rows_in f) cells_are ∙ mul-div_right (columns_in f) h
  header-same (suc (suc zero)) l = peaks-are
  header-same (suc (suc (suc zero))) l = sym can.whole.counted.heights
  header-same (suc (suc (suc (suc zero)))) l =
      ap (λ (n : ℕ). 24 + 4 * n) cells_are ∙ sym can.whole.counted.records
  header-same (suc (suc (suc (suc (suc zero))))) l = omega (arith, cells_are, peaks-are, can.whole.counted.total)
  header-same (suc (suc (suc (suc (suc (suc j)))))) l = absurd (omega arith)

  record_same :
      (i r : ℕ) → r < 4 → get_or (fields_of (record_from f (cells_in f) i)) r 0 ≡ word_at f (6 + cells_in f + 4 * i + r)
  unfolding fields_of peak_from
  record_same i zero l = ap (word_at f) (omega arith)
  record_same i (suc zero) l = bits-signed (word_at f (6 + cells_in f + 4 * i + 1)) (below (6 + cells_in f + 4 * i + 1))
  record_same i (suc (suc zero)) l =
      bits-signed (word_at f (6 + cells_in f + 4 * i + 2)) (below (6 + cells_in f + 4 * i + 2))
  record_same i (suc (suc (suc zero))) l = refl
  record_same i (suc (suc (suc (suc r)))) l = absurd (omega arith)

  numbers-same :
      (j : ℕ) → j < 6 + cells_in f + 4 * peaks_in f → get_or (numbers_of (rows_in f) hs ps) j 0 ≡ word_at f j
  numbers-same j l = elim (dec_lt j 6) [
    | yes h ↦ numbers-header (rows_in f) hs ps j h ∙ header-same j h
    | no n ↦ elim (dec_lt j (6 + cells_in f)) [
      | yes h ↦
          let place : 6 + (j - 6) ≡ j = omega arith in
          let e =
          numbers-height (rows_in f) hs ps (j - 6) (omega (arith, cells_are))
          ∙ ap bits_of (heights-at f 6 (cells_in f) (j - 6) (omega arith))
          ∙ bits-signed (word_at f (6 + (j - 6))) (below (6 + (j - 6))) in
          rw place at e
      | no m ↦
          let i = (j - 6 - cells_in f) / 4 in
          let r = (j - 6 - cells_in f) % 4 in
          let place : 6 + length hs + (4 * i + r) ≡ j = omega (arith, cells_are) in
          let back : 6 + cells_in f + 4 * i + r ≡ j = omega arith in
          let e = numbers-record (rows_in f) hs ps i r (omega (arith, peaks-are)) (omega arith) in
          (rw place at e)
          ∙ ap (λ (p : Peak). get_or (fields_of p) r 0) (peaks-at f (6 + cells_in f) (peaks_in f) i (omega arith))
          ∙ record_same i r (omega arith) ∙ ap (word_at f) back
    ]
  ]

  byte-same :
      (j r : ℕ) → j < 6 + cells_in f + 4 * peaks_in f → r < 4 →
      get_or (file_of (rows_in f) hs ps) (4 * j + r) 0 ≡ get_or f (4 * j + r) 0
  unfolding file_of
  byte-same j r l k =
      let there : j < length (numbers_of (rows_in f) hs ps) =
      omega (arith, numbers-length (rows_in f) hs ps, cells_are, peaks-are) in
      bytes-at (numbers_of (rows_in f) hs ps) j r there k ∙ ap (λ (w : ℕ). get_or (word_of w) r 0) (numbers-same j l)
      ∙ sym (byte-of-word f bytes j r k)

  pub read-file : file_of (rows_in f) hs ps ≡ f
  read-file =
      let len = file-length (rows_in f) hs ps in
      let total : length f ≡ 24 + 4 * cells_in f + 16 * peaks_in f =
      omega (arith, can.whole.total, can.whole.counted.total) in
      let same : length (file_of (rows_in f) hs ps) ≡ length f = omega (arith, cells_are, peaks-are) in
      ext_get_or 0 (file_of (rows_in f) hs ps) f same
      (λ k l.
      let place : 4 * (k / 4) + k % 4 ≡ k = omega arith in
      let e = byte-same (k / 4) (k % 4) (omega arith) (omega arith) in
      rw place at e)
