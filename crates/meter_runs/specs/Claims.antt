-- What is claimed of the timed calls beyond their contracts.
--     MeterColumnUnique, MeterOutlineUnique
--                two answers that a promise allows are equal, and so is all that was lent, the bytes of the work area
--                that are used apart
--     Claims     both
-- Assumes nothing.
use Rattle.std.specs.Prelude.{◌≡◌, List, ℕ, ◌+◌, ℤ, length}
use Rattle.table.specs.Promises.{Worked}
use Rattle.running.specs.declared.Run.{Run}
use Rattle.running.specs.Running.{held_of, column_tests}
use Rattle.outline.specs.Promises.{outline_tests}
use Rattle.meter_runs.specs.Promises.{MeterColumns, MeterOutlines}

abbrev pub MeterColumnUnique : Type 0
MeterColumnUnique =
    (run : Run) (column grid g h : List ℤ) (work w v table t u : List ℕ) (a b : ℤ)
    → MeterColumns run column grid g work w table t a
    → MeterColumns run column grid h work v table u b
    → ((a ≡ b) × (t ≡ u) × Worked (column_tests run (length column) (length grid) (length work))
    (held_of run + run.rows)
    w v) × (g ≡ h)

abbrev pub MeterOutlineUnique : Type 0
MeterOutlineUnique =
    (run : Run) (grid : List ℤ) (levels : ℕ) (work w v text t u : List ℕ) (a b : ℤ)
    → MeterOutlines run grid levels work w text t a
    → MeterOutlines run grid levels work v text u b
    → (a ≡ b) × (t ≡ u) × Worked (outline_tests run (length grid) levels (length work)) (held_of run) w v

pub record Claims : Type 0 where
  pub meter-column-unique : MeterColumnUnique
  pub meter-outline-unique : MeterOutlineUnique
