-- What the function below the timed reading promises.
--     FileRead f hs hs' table table' a    a is the record count or the refusal, hs' and table' the lent heights hs and
--                                         the table of bytes at the end
-- Assumes nothing.
use Rattle.std.specs.Prelude.{Result, List, ◌++◌, ◌≡◌, ℕ, ◌/◌, ℤ, length, drop}
use Rattle.record.specs.declared.Refusal.{Refusal}
use Rattle.record.specs.Refusals.{handed_told}
use Rattle.layout.specs.declared.ReadBack.{ReadBack}
use Rattle.layout.specs.Layout.{heights_in, cells_in, peaks_in, records_from}
use Rattle.layout.specs.Promises.{ReadAnswers, lent_after, signed_told, bytes_after}
use Rattle.meter_files.specs.Promises.{count_told}

pub record FileRead (f : List ℕ) (hs hs' : List ℤ) (table table' : List ℕ) (a : Result ℕ Refusal) : Type 0 where
  pub back : Result ReadBack Refusal
  pub read : ReadAnswers f (length hs) (length table / 16) back
  pub counted : handed_told a ≡ count_told back
  pub heights : hs' ≡ lent_after back (heights_in f (cells_in f) ++ drop (cells_in f) hs) hs
  pub filled : table' ≡ bytes_after (signed_told (handed_told a)) (records_from f (cells_in f) (peaks_in f)) table
