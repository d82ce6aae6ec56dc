-- The answers of writing and reading: sections "Run file" and "What comes back" of document 01.
--     written_told a, read_told a             what an answer tells the caller
--     write_tests rows cells n unsound room   the order of refusals of `write`, for so many cells, records and bytes of
--                                             room, at the index of the first unsound record
--     run_of rows columns peaks               the answer of `read` that is a run
--     miscounted f cells n                    the header of f is not that of so many cells and records
--     read_tests f heights table unsound      the order of refusals of `read`, for so many lent heights and table
--                                             entries
--     room_after, lent_after a new old        what is lent at an answer: new on success, old at a refusal
--     ReadAnswers f heights table a           a is the answer of `read`
--     signed_told told                        what a call tells, as one signed number
--     bytes_after a records table             the bytes of a table after an answer that hands out these records
--     HandsBytes                              `Hands` of `table`, with the table as bytes and the answer as that number
-- Assumes nothing.
use Rattle.std.specs.Prelude.{Result, Ok, Err}
use Rattle.std.specs.Prelude.{◌≡◌, ℕ, zero, suc, ◌+◌, ◌*◌, ◌/◌, ◌%◌, Bool, not, ◌||◌, List, [], ◌∷◌, ◌++◌, map, length}
use Rattle.std.specs.Prelude.{drop, ℤ, pos, negsuc, ◌==◌, nat_lt, slice_index}
use Rattle.relief.specs.Peaks.{Entry}
use Rattle.record.specs.declared.Peak.{Peak}
use Rattle.record.specs.declared.Refusal.{Refusal}
use Rattle.record.specs.declared.Refusal.TheVariants.{Rows, Length, Cells, Table, FileLength, FileCounts}
use Rattle.record.specs.declared.Refusal.TheVariants.{Unsound, Room}
use Rattle.record.specs.Records.{record_of}
use Rattle.record.specs.Refusals.{Told, granted, told_of, told_by, bad_rows}
use Rattle.words.specs.Words.{word_at}
use Rattle.layout.specs.declared.ReadBack.{ReadBack}
use Rattle.table.specs.Promises.{handed_by, Worked}
use Rattle.sound.specs.Sound.{FirstUnsound}
use Rattle.layout.specs.Layout.{bytes_of, all_fields_of, total_of, rows_in, columns_in, peaks_in, cells_in, heights_in}
use Rattle.layout.specs.Layout.{records_from}

-- ---- writing

-- the bytes of the file
abbrev pub written_told : Result ℕ Refusal → Told
written_told (Ok n) = granted (n ∷ [])
written_told (Err r) = told_of r

-- "Write file: 1, 2, 3, 12, 13." `unsound` is the index of the first record that is not sound, or n.
unfoldable pub write_tests : ℕ → ℕ → ℕ → ℕ → ℕ → List (Bool × Refusal)
write_tests rows cells n unsound room =
    -- 1: "rows are 0 or above 1,024"
    (bad_rows rows, Rows)
    -- 2: "length of heights is no multiple of rows"
    ∷ (not (cells % rows == 0), Length)
    -- 3: "more than 1,048,576 cells"
    ∷ (nat_lt 1048576 cells, Cells)
    -- 12: "a record is not sound"; also returns "index of the first such record"
    ∷ (nat_lt unsound n, Unsound unsound)
    -- 13: "room too short for the file"; also returns the "bytes [..] needed"
    ∷ (nat_lt room (total_of cells n), Room (total_of cells n))
    ∷ []

-- "A refusal [..] writes nothing".
abbrev pub room_after : Result ℕ Refusal → List ℕ → List ℕ → List ℕ
room_after (Ok total) new old = new
room_after (Err r) new old = old

-- ---- reading

-- the answer that is a run
abbrev pub run_of : ℕ → ℕ → ℕ → Result ReadBack Refusal
run_of rows columns peaks = Ok (record { rows = rows; columns = columns; peaks = peaks })

-- "Reading hands back rows, columns and n"
abbrev pub read_told : Result ReadBack Refusal → Told
read_told (Ok run) = granted (run.rows ∷ run.columns ∷ run.peaks ∷ [])
read_told (Err r) = told_of r

-- "n above the cell count, or an offset or total not as computed"
unfoldable pub miscounted : List ℕ → ℕ → ℕ → Bool
miscounted f cells n =
    nat_lt cells n || not (word_at f 3 == 24) || not (word_at f 4 == 24 + 4 * cells)
    || not (word_at f 5 == total_of cells n)

-- "Read file: 10 (under 24 bytes), 1, 3, 11, 10 (total), 12, 13, 5."
unfoldable pub read_tests : List ℕ → ℕ → ℕ → ℕ → List (Bool × Refusal)
read_tests f heights table unsound =
    -- 10: "file under 24 bytes"
    (nat_lt (length f) 24, FileLength)
    -- 1: "rows are 0 or above 1,024"
    ∷ (bad_rows (rows_in f), Rows)
    -- 3: "more than 1,048,576 cells"
    ∷ (nat_lt 1048576 (cells_in f), Cells)
    -- 11: "n above the cell count, or an offset or total not as computed"
    ∷ (miscounted f (cells_in f) (peaks_in f), FileCounts)
    -- 10: "its length is not the stored total"
    ∷ (not (length f == word_at f 5), FileLength)
    -- 12: "a record is not sound"; also returns "index of the first such record"
    ∷ (nat_lt unsound (peaks_in f), Unsound unsound)
    -- 13: "room too short for [..] the heights"; also returns the "heights needed"
    ∷ (nat_lt heights (cells_in f), Room (cells_in f))
    -- 5: "peak table too short"; also returns "the number of records needed"
    ∷ (nat_lt table (peaks_in f), Table (peaks_in f))
    ∷ []

-- "A refusal [..] writes nothing".
abbrev pub lent_after : {A : Type 0} → Result ReadBack Refusal → List A → List A → List A
lent_after (Ok run) new old = new
lent_after (Err r) new old = old

-- The answer to the file f, whatever its header says.
pub record ReadAnswers (f : List ℕ) (heights table : ℕ) (a : Result ReadBack Refusal) : Type 0 where
  pub unsound : ℕ
  pub first : FirstUnsound (heights_in f (cells_in f)) (records_from f (cells_in f) (peaks_in f)) unsound
  pub answered :
      read_told a
      ≡ told_by (read_tests f heights table unsound) (granted (rows_in f ∷ columns_in f ∷ peaks_in f ∷ []))

-- ---- records handed out as bytes

-- "one signed number, the record count or minus the refusal number" (`negsuc n` is -(n + 1)); "at 5 it doesn't tell the
-- number needed".
abbrev pub signed_by : ℕ → List ℕ → ℤ
signed_by zero values = pos (slice_index values 0)
signed_by (suc n) values = negsuc n

abbrev pub signed_told : Told → ℤ
signed_told told = signed_by told.number told.values

-- "passes [..] records as bytes, in the file's layouts". "A refusal [..] writes nothing"; "On success [..] bytes [..]
-- beyond those counted stay as they were."
abbrev pub bytes_after : ℤ → List Peak → List ℕ → List ℕ
bytes_after (pos n) records table = bytes_of (all_fields_of records) ++ drop (16 * n) table
bytes_after (negsuc n) records table = table

-- "its table counts as many records as fit whole": a record has 16 bytes.
pub record HandsBytes (tests : List (Bool × Refusal)) (cells : ℕ) (Right : List Entry → Type 0)
    (work work' table table' : List ℕ) (answer : ℤ) : Type 0 where
  pub entries : List Entry
  pub right : Right entries
  pub answered : answer ≡ signed_told (handed_by tests (length table / 16) (length entries))
  pub filled : table' ≡ bytes_after answer (map record_of entries) table
  pub worked : Worked tests cells work work'
