-- What is claimed of the timed calls beyond their contracts.
--     MeterAccountUnique, MeterCheckUnique
--                two answers that a promise allows are equal, and so is all that was lent, the bytes of the work area
--                that are used apart
--     Claims     both
-- Assumes nothing.
use Rattle.std.specs.Prelude.{◌≡◌, List, ℕ, ℤ, length}
use Rattle.heights.specs.Grid.{grid_tests}
use Rattle.table.specs.Promises.{Worked}
use Rattle.meter_accounts.specs.Promises.{MeterAccounts, MeterChecks}

abbrev pub MeterAccountUnique : Type 0
MeterAccountUnique =
    (rows : ℕ) (heights : List ℤ) (cell : ℕ) (work w v path t u island k l : List ℕ) (a b : ℤ)
    → MeterAccounts rows heights cell work w path t island k a
    → MeterAccounts rows heights cell work v path u island l b
    → (a ≡ b) × (t ≡ u) × (k ≡ l) × Worked (grid_tests rows (length heights) (length work)) (length heights) w v

abbrev pub MeterCheckUnique : Type 0
MeterCheckUnique =
    (rows : ℕ) (heights : List ℤ) (cell : ℕ) (key : ℤ) (path island work w v : List ℕ) (a b : ℤ)
    → MeterChecks rows heights cell key path island work w a
    → MeterChecks rows heights cell key path island work v b
    → (a ≡ b) × Worked (grid_tests rows (length heights) (length work)) (length heights) w v

pub record Claims : Type 0 where
  pub meter-account-unique : MeterAccountUnique
  pub meter-check-unique : MeterCheckUnique
