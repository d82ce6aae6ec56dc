-- What is claimed of the C entry beyond its contract.
--     SuiteUnique     its promise allows one answer and one table, and one work area but for the bytes that it uses
--     Claims          all of these
-- Assumes nothing.
use Rattle.std.specs.Prelude.{◌≡◌, List, ℕ, ◌/◌, ℤ, length}
use Rattle.table.specs.Promises.{Worked}
use Rattle.suite.specs.Promises.{suite_tests, SuiteLists}

-- "Each public call's promise determines its answer and everything it was lent, on all inputs, refusals too; two
-- answers allowed by it are shown equal."
abbrev pub SuiteUnique : Type 0
SuiteUnique =
    (rows : ℕ) (heights : List ℕ) (T : ℕ) (work w v table t u : List ℕ) (a b : ℤ)
    → SuiteLists rows heights T work w table t a → SuiteLists rows heights T work v table u b
    → (a ≡ b) × (t ≡ u) × Worked (suite_tests rows (length heights) (length work)) (length heights / 4) w v

pub record Claims : Type 0 where
  pub suite-unique : SuiteUnique
