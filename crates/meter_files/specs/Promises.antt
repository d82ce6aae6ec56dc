-- The promises of the timed calls: those of `runfile::write` and `runfile::read`, with records passed as bytes in the
-- file's layout and the answer as one signed number.
--     lent_row records            the records lent as bytes: as many as fit whole
--     count_told a                what `meter_read` tells: the record count alone
--     MeterWrites, MeterReads     the promises of the two calls
-- Assumes nothing.
use Rattle.record.specs.declared.Refusal.{Refusal}
use Rattle.std.specs.Prelude.{Result, Ok, Err, List, [], ◌∷◌, ◌++◌, ◌≡◌, ℕ, ◌/◌, ℤ, length, drop}
use Rattle.record.specs.declared.Peak.{Peak}
use Rattle.record.specs.Refusals.{Told, granted, told_of}
use Rattle.layout.specs.declared.ReadBack.{ReadBack}
use Rattle.layout.specs.Layout.{heights_in, cells_in, peaks_in, peaks_from, records_from}
use Rattle.layout.specs.Promises.{written_told, ReadAnswers, lent_after, signed_told, bytes_after}
use Rattle.runfile.specs.Promises.{Writes}

abbrev pub lent_row : List ℕ → List Peak
lent_row records = peaks_from records 0 (length records / 16)

-- `Writes` of `runfile`.
pub record MeterWrites (rows : ℕ) (heights : List ℤ) (records s s' : List ℕ) (answer : ℤ) : Type 0 where
  pub written : Result ℕ Refusal
  pub writes : Writes rows heights (lent_row records) s s' written
  pub answered : answer ≡ signed_told (written_told written)

abbrev pub count_told : Result ReadBack Refusal → Told
count_told (Ok run) = granted (run.peaks ∷ [])
count_told (Err r) = told_of r

-- `Reads` of `runfile`, but for the table.
pub record MeterReads (f : List ℕ) (hs hs' : List ℤ) (table table' : List ℕ) (answer : ℤ) : Type 0 where
  pub back : Result ReadBack Refusal
  pub read : ReadAnswers f (length hs) (length table / 16) back
  pub answered : answer ≡ signed_told (count_told back)
  pub heights : hs' ≡ lent_after back (heights_in f (cells_in f) ++ drop (cells_in f) hs) hs
  pub filled : table' ≡ bytes_after answer (records_from f (cells_in f) (peaks_in f)) table
