-- What is claimed of the whole-grid call beyond its contract.
--     ListUnique      its promise allows one answer and one row, and one work area but for the bytes that it uses
--     FlatUnique      the same of the call without the row, with the records that it leaves
--     Claims          all of these
-- Assumes nothing.
use Rattle.record.specs.declared.Refusal.{Refusal}
use Rattle.std.specs.Prelude.{Result, Ok}
use Rattle.std.specs.Prelude.{◌≡◌, List, ℕ, ℤ, length}
use Rattle.record.specs.declared.Peak.{Peak}
use Rattle.heights.specs.Grid.{grid_tests}
use Rattle.table.specs.Promises.{Worked}
use Rattle.table.specs.Inner.{records_in}
use Rattle.list.specs.Promises.{Lists}
use Rattle.list.specs.Inner.{ListsFlat}

-- "Each public call's promise determines its answer and everything it was lent, on all inputs, refusals too; two
-- answers allowed by it are shown equal."
abbrev pub ListUnique : Type 0
ListUnique = (rows : ℕ) (heights : List ℤ) (T : ℕ) (work w v : List ℕ) (table t u : List Peak) (a b : Result ℕ Refusal)
    → Lists rows heights T work w table t a → Lists rows heights T work v table u b
    → (a ≡ b) × (t ≡ u) × Worked (grid_tests rows (length heights) (length work)) (length heights) w v

abbrev pub FlatUnique : Type 0
FlatUnique = (rows : ℕ) (heights : List ℤ) (T : ℕ) (work w v : List ℕ) (room : ℕ) (a b : Result ℕ Refusal)
    → ListsFlat rows heights T work room w a → ListsFlat rows heights T work room v b
    → (a ≡ b) × ((n : ℕ) → a ≡ Ok n → records_in w (length heights) n ≡ records_in v (length heights) n)
    × Worked (grid_tests rows (length heights) (length work)) (length heights) w v

pub record Claims : Type 0 where
  pub list-unique : ListUnique
  pub flat-unique : FlatUnique
