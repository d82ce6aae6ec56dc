-- The promises of the timed calls: those of `run::column` and `outline::outline`, with records passed as bytes in the
-- file's layout and the answer as one signed number.
--     MeterColumns, MeterOutlines    the promises of the two calls
-- Assumes nothing.
use Rattle.record.specs.declared.Refusal.{Refusal}
use Rattle.std.specs.Prelude.{Result}
use Rattle.std.specs.Prelude.{List, ◌≡◌, ℕ, ◌+◌, ℤ, length}
use Rattle.record.specs.Refusals.{first_of}
use Rattle.running.specs.declared.Run.{Run}
use Rattle.running.specs.Running.{held_of, column_tests}
use Rattle.run.specs.Promises.{column_grid, ColumnBatch}
use Rattle.outline.specs.Promises.{outlined_told, Outlines}
use Rattle.layout.specs.Promises.{signed_told, HandsBytes}

-- ---- Column

-- `Columns` of `run`; the run record after the call follows from the answer, and the caller keeps it.
pub record MeterColumns (run : Run) (column grid grid' : List ℤ) (work work' table table' : List ℕ) (answer : ℤ)
    : Type 0 where
  pub hands : HandsBytes (column_tests run (length column) (length grid) (length work)) (held_of run + run.rows)
      (ColumnBatch run column grid) work work' table table' answer
  pub grid_after : grid'
      ≡ column_grid (first_of (column_tests run (length column) (length grid) (length work))) run column grid

-- ---- the outline

-- `Outlines` of `outline`.
pub record MeterOutlines (run : Run) (grid : List ℤ) (levels : ℕ) (work work' text text' : List ℕ) (answer : ℤ)
    : Type 0 where
  pub outlined : Result ℕ Refusal
  pub outlines : Outlines run grid levels work work' text text' outlined
  pub answered : answer ≡ signed_told (outlined_told outlined)
