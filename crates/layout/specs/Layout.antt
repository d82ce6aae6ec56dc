-- The run file's bytes: section "Run file" of document 01.
--     bits_of z, signed_of w                      a signed 32-bit number in two's complement, and back
--     word_of v, bytes_of vs                      the four bytes of a 32-bit number, the bytes of a row of them
--     total_of cells n                           the length of a file
--     header_of rows cells n                     the six numbers of the header
--     fields_of p, all_fields_of ps                the four numbers of a record, and those of a row of records
--     numbers_of rows heights records            the 32-bit numbers of a file, in their order
--     file_of rows heights records               its bytes
--     rows_in, columns_in, peaks_in, cells_in f     what a file's header says
--     heights_from s at n, heights_in f n         n heights from the at-th number of s on; the first n of a file
--     peak_from s at, peaks_from s at n           the record whose first number is the at-th of s, n records from it on
--     record_from f cells i, records_from f cells n    the i-th record of a file of so many cells, the first n of them
-- A file read is a list of bytes, and word_at f i its i-th number. Assumes nothing.
use Rattle.std.specs.Prelude.{ℕ, zero, suc, ◌+◌, ◌-◌, ◌*◌, ◌/◌, ◌%◌, true, false, List, [], ◌∷◌, ◌++◌, map, length, ℤ}
use Rattle.std.specs.Prelude.{pos, negsuc, nat_lt}
use mathlib.Core.List.{flat_map}
use Rattle.record.specs.declared.Peak.{Peak}
use Rattle.words.specs.Words.{word_at}

-- ---- numbers

-- "Heights and key heights are signed 32-bit two's complement" (`negsuc n` is -(n + 1)).
unfoldable pub bits_of : ℤ → ℕ
bits_of (pos n) = n
bits_of (negsuc n) = 4294967295 - n

unfoldable pub signed_of : ℕ → ℤ
signed_of w = elim (nat_lt w 2147483648) [ true ↦ pos w | false ↦ negsuc (4294967295 - w) ]

-- "unsigned 32-bit little-endian", "all is little-endian"
unfoldable pub word_of : ℕ → List ℕ
word_of v = (v % 256) ∷ (v / 256 % 256) ∷ (v / 65536 % 256) ∷ (v / 16777216) ∷ []

abbrev pub bytes_of : List ℕ → List ℕ
bytes_of vs = flat_map word_of vs

-- ---- a file written

-- "20 total length (offset of peaks + 16n)", with "16 offset of peaks (24 + 4 x cells)"
abbrev pub total_of : ℕ → ℕ → ℕ
total_of cells n = 24 + 4 * cells + 16 * n

-- "byte 0 rows, 4 columns, 8 number of peaks n, 12 offset of heights (24), 16 offset of peaks (24 + 4 x cells), 20
-- total length (offset of peaks + 16n)"
unfoldable pub header_of : ℕ → ℕ → ℕ → List ℕ
header_of rows cells n = rows ∷ (cells / rows) ∷ n ∷ 24 ∷ (24 + 4 * cells) ∷ total_of cells n ∷ []

-- "A record holds cell, height, key height, pass cell."
unfoldable pub fields_of : Peak → List ℕ
fields_of p = p.cell ∷ bits_of p.height ∷ bits_of p.key ∷ p.pass ∷ []

-- "n records of 16 bytes, fields in the order above"
abbrev pub all_fields_of : List Peak → List ℕ
all_fields_of ps = flat_map fields_of ps

-- "A header of counts and offsets [..]. Then the heights in reading order, then n records"
unfoldable pub numbers_of : ℕ → List ℤ → List Peak → List ℕ
numbers_of rows heights records =
    header_of rows (length heights) (length records) ++ map bits_of heights ++ all_fields_of records

unfoldable pub file_of : ℕ → List ℤ → List Peak → List ℕ
file_of rows heights records = bytes_of (numbers_of rows heights records)

-- ---- a file read

abbrev pub rows_in : List ℕ → ℕ
rows_in f = word_at f 0

abbrev pub columns_in : List ℕ → ℕ
columns_in f = word_at f 1

abbrev pub peaks_in : List ℕ → ℕ
peaks_in f = word_at f 2

abbrev pub cells_in : List ℕ → ℕ
cells_in f = rows_in f * columns_in f

-- So many heights, the first of which is the at-th number.
unfoldable pub heights_from : List ℕ → ℕ → ℕ → List ℤ
heights_from s at zero = []
heights_from s at (suc i) = heights_from s at i ++ (signed_of (word_at s (at + i)) ∷ [])

-- Those of a file stand behind its header, which has six numbers.
abbrev pub heights_in : List ℕ → ℕ → List ℤ
heights_in f n = heights_from f 6 n

-- A record is four numbers, the first of which is the at-th.
unfoldable pub peak_from : List ℕ → ℕ → Peak
peak_from s at = record {
  cell = word_at s at;
  height = signed_of (word_at s (at + 1));
  key = signed_of (word_at s (at + 2));
  pass = word_at s (at + 3);
}

unfoldable pub peaks_from : List ℕ → ℕ → ℕ → List Peak
peaks_from s at zero = []
peaks_from s at (suc i) = peaks_from s at i ++ (peak_from s (at + 4 * i) ∷ [])

-- Those of a file stand behind its header and its heights.
abbrev pub record_from : List ℕ → ℕ → ℕ → Peak
record_from f cells i = peak_from f (6 + cells + 4 * i)

abbrev pub records_from : List ℕ → ℕ → ℕ → List Peak
records_from f cells n = peaks_from f (6 + cells) n
