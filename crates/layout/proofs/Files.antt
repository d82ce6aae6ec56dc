-- Laws of whole files: the numbers of a written file are where a reader looks for them. With `Rows` the only file of
-- this crate that unfolds `header_of`, `fields_of`, `numbers_of`, `file_of` and `peak_from`, but for the proofs of
-- the functions that put and take them.
--     numbers-length, numbers-header, numbers-height, numbers-record    the numbers of a file
--     file-length, file-word           its length, and a number of its bytes
--     file-rows .. file-total          its header as a reader finds it
--     back-cells, back-heights, back-records    what a written file holds is what was written
-- Assumes nothing.
use Rattle.std.proofs.Common.{◌≡◌, ℕ, ◌+◌, ◌*◌, ◌/◌, ◌<◌, ◌⊎◌, List, ◌++◌, map, length, get_or, ℤ, sym, refl, ap, ◌∙◌}
use Rattle.std.proofs.Common.{inl, inr, arith, length-append, get_or-append-add, ext_get_or, w32, SFits}
use native.Mathlib.Nat.{div-add-mod}
use lib.ListN.{length-map, get_or-append, get_or-map}
use Rattle.relief.specs.Heights.{BLANK}
use Rattle.record.specs.declared.Peak.{Peak}
use Rattle.words.specs.Words.{word_at}
use Rattle.layout.specs.Layout.{bits_of, signed_of, total_of, header_of, fields_of, all_fields_of}
use Rattle.layout.specs.Layout.{numbers_of, file_of, rows_in, columns_in, peaks_in, cells_in, heights_in}
use Rattle.layout.specs.Layout.{peak_from, record_from, records_from}
use Rattle.sound.specs.Sound.{Keyless, Keyed, ith_of, GridOf, SoundRow}
use Rattle.sound.proofs.Cells.{at-any}
use Rattle.layout.proofs.Complement.{signed-bits}
use Rattle.layout.proofs.Rows.{four-length, four-at, record-four, bytes-length, bytes_word}
use Rattle.layout.proofs.Rows.{heights-length, heights-at, peaks-length, peaks-at}

-- ---- the numbers of a written file

module _ (rows : ℕ) (hs : List ℤ) (ps : List Peak) where
  abbrev header : List ℕ
  header = header_of rows (length hs) (length ps)

  abbrev bits : List ℕ
  bits = map bits_of hs

  header-length : length header ≡ 6
  unfolding header_of
  header-length = refl

  front_length : length (header ++ bits) ≡ 6 + length hs
  front_length = length-append header bits ∙ omega (arith, header-length, length-map hs bits_of)

  pub numbers-length : length (numbers_of rows hs ps) ≡ 6 + length hs + 4 * length ps
  unfolding numbers_of
  numbers-length =
      length-append (header ++ bits) (all_fields_of ps)
      ∙ omega (arith, front_length, four-length fields_of record-four ps)

  pub numbers-header : (j : ℕ) → j < 6 → get_or (numbers_of rows hs ps) j 0 ≡ get_or header j 0
  unfolding numbers_of
  numbers-header j l =
      get_or-append (header ++ bits) (all_fields_of ps) 0 j (omega (arith, front_length))
      ∙ get_or-append header bits 0 j (omega (arith, header-length))

  pub numbers-height : (i : ℕ) → i < length hs → get_or (numbers_of rows hs ps) (6 + i) 0 ≡ bits_of (get_or hs i BLANK)
  unfolding numbers_of
  numbers-height i l =
      let there : i < length bits = omega (arith, length-map hs bits_of) in
      get_or-append (header ++ bits) (all_fields_of ps) 0 (6 + i) (omega (arith, front_length))
      ∙ ap (λ (n : ℕ). get_or (header ++ bits) (n + i) 0) (sym header-length)
      ∙ get_or-append-add header bits i 0
      ∙ at-any bits i 0 (bits_of BLANK) there
      ∙ get_or-map bits_of hs i BLANK

  pub numbers-record :
      (i r : ℕ) → i < length ps → r < 4 →
      get_or (numbers_of rows hs ps) (6 + length hs + (4 * i + r)) 0 ≡ get_or (fields_of (ith_of ps i)) r 0
  unfolding numbers_of ith_of
  numbers-record i r l k =
      ap (λ (n : ℕ). get_or ((header ++ bits) ++ all_fields_of ps) (n + (4 * i + r)) 0) (sym front_length)
      ∙ get_or-append-add (header ++ bits) (all_fields_of ps) (4 * i + r) 0
      ∙ four-at fields_of record-four ps _ i r l k

  pub file-length : length (file_of rows hs ps) ≡ total_of (length hs) (length ps)
  unfolding file_of
  file-length = bytes-length (numbers_of rows hs ps) ∙ omega (arith, numbers-length)

  pub file-word :
      (j : ℕ) → j < 6 + length hs + 4 * length ps → word_at (file_of rows hs ps) j ≡ get_or (numbers_of rows hs ps) j 0
  unfolding file_of
  file-word j l = bytes_word (numbers_of rows hs ps) j (omega (arith, numbers-length))

  -- ---- what a reader finds there

  file-header : (j : ℕ) → j < 6 → word_at (file_of rows hs ps) j ≡ get_or header j 0
  file-header j l = file-word j (omega arith) ∙ numbers-header j l

  pub file-rows : rows_in (file_of rows hs ps) ≡ rows
  unfolding header_of
  file-rows = file-header 0 (omega arith)

  pub file-columns : columns_in (file_of rows hs ps) ≡ length hs / rows
  unfolding header_of
  file-columns = file-header 1 (omega arith)

  pub file-peaks : peaks_in (file_of rows hs ps) ≡ length ps
  unfolding header_of
  file-peaks = file-header 2 (omega arith)

  pub file-offset : word_at (file_of rows hs ps) 3 ≡ 24
  unfolding header_of
  file-offset = file-header 3 (omega arith)

  pub file-offset-2 : word_at (file_of rows hs ps) 4 ≡ 24 + 4 * length hs
  unfolding header_of
  file-offset-2 = file-header 4 (omega arith)

  pub file-total : word_at (file_of rows hs ps) 5 ≡ total_of (length hs) (length ps)
  unfolding header_of
  file-total = file-header 5 (omega arith)

-- ---- what is written is read back

module _ {rows : ℕ} {hs : List ℤ} (ps : List Peak) (grid : GridOf rows hs) (all : SoundRow hs ps) where
  abbrev file : List ℕ
  file = file_of rows hs ps

  pub back-cells : cells_in file ≡ length hs
  back-cells =
      let d = div-add-mod (length hs) rows in
      let w = grid.whole in
      ap (λ (n : ℕ). n * columns_in file) (file-rows rows hs ps) ∙ ap (λ (n : ℕ). rows * n) (file-columns rows hs ps)
      ∙ omega arith

  pub back-heights : heights_in file (length hs) ≡ hs
  back-heights =
      ext_get_or BLANK (heights_in file (length hs)) hs (heights-length file 6 (length hs))
      (λ i l.
      let h : i < length hs = omega (arith, heights-length file 6 (length hs)) in
      heights-at file 6 (length hs) i h ∙ ap signed_of (file-word rows hs ps (6 + i) (omega arith))
      ∙ ap signed_of (numbers-height rows hs ps i h) ∙ signed-bits (grid.fit i h))

  -- A sound record's heights are cells', or the mark.
  height-fits : (i : ℕ) → i < length ps → SFits w32 (ith_of ps i).height
  height-fits i l = let s = all i l in rw s.holds at (grid.fit (ith_of ps i).cell s.exists)

  key_fits : (i : ℕ) → i < length ps → SFits w32 (ith_of ps i).key
  key_fits i l = by-keys (all i l).keys
    where
      by-keys : Keyless (ith_of ps i) ⊎ Keyed hs (ith_of ps i) → SFits w32 (ith_of ps i).key
      by-keys (inl k) = rw k.key (record { sfits = omega arith })
      by-keys (inr k) = rw k.holds at (grid.fit (ith_of ps i).pass k.exists)

  record-word :
      (i r : ℕ) → i < length ps → r < 4 →
      word_at file (6 + length hs + 4 * i + r) ≡ get_or (fields_of (ith_of ps i)) r 0
  record-word i r l k =
      let place : 6 + length hs + 4 * i + r ≡ 6 + length hs + (4 * i + r) = omega arith in
      file-word rows hs ps (6 + length hs + 4 * i + r) (omega arith)
      ∙ ap (λ (n : ℕ). get_or (numbers_of rows hs ps) n 0) place ∙ numbers-record rows hs ps i r l k

  back-record : (i : ℕ) → i < length ps → record_from file (length hs) i ≡ ith_of ps i
  unfolding peak_from fields_of
  back-record i l =
      let place : 6 + length hs + 4 * i + 0 ≡ 6 + length hs + 4 * i = omega arith in
      let cell = record-word i 0 l (omega arith) in
      rw (
        rw place at cell,
        record-word i 1 l (omega arith),
        record-word i 2 l (omega arith),
        record-word i 3 l (omega arith),
        signed-bits (height-fits i l),
        signed-bits (key_fits i l),
      )

  pub back-records : records_from file (length hs) (length ps) ≡ ps
  unfolding ith_of
  back-records =
      ext_get_or _ (records_from file (length hs) (length ps)) ps (peaks-length file (6 + length hs) (length ps))
      (λ i l.
      let h : i < length ps = omega (arith, peaks-length file (6 + length hs) (length ps)) in
      peaks-at file (6 + length hs) (length ps) i h ∙ back-record i h)
