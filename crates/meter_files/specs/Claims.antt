-- What is claimed of the timed calls beyond their contracts.
--     MeterWriteUnique, MeterReadUnique
--                two answers that a promise allows are equal, and so is all that was lent
--     Claims     both
-- Assumes nothing.
use Rattle.std.specs.Prelude.{◌≡◌, List, ℕ, ℤ}
use Rattle.meter_files.specs.Promises.{MeterWrites, MeterReads}

abbrev pub MeterWriteUnique : Type 0
MeterWriteUnique =
    (rows : ℕ) (heights : List ℤ) (records room r r' : List ℕ) (a b : ℤ)
    → MeterWrites rows heights records room r a
    → MeterWrites rows heights records room r' b
    → (a ≡ b) × (r ≡ r')

abbrev pub MeterReadUnique : Type 0
MeterReadUnique =
    (f : List ℕ) (heights h h' : List ℤ) (table t t' : List ℕ) (a b : ℤ)
    → MeterReads f heights h table t a
    → MeterReads f heights h' table t' b
    → (a ≡ b) × (h ≡ h') × (t ≡ t')

pub record Claims : Type 0 where
  pub meter-write-unique : MeterWriteUnique
  pub meter-read-unique : MeterReadUnique
