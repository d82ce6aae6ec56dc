-- A growing run: sections "A growing run" and "What comes back" of document 01.
--     started_told, Starts           what the answer of Start tells, and its promise
--     column_grid                    the grid after a column call
--     Columns, Ends                  the promises of Column and End: they determine the answer, the record and all that
--                                    was lent, but for the bytes of the work area that are used
-- What they say of the run record and of the tests stands in `running`. Assumes nothing.
use Rattle.record.specs.declared.Refusal.{Refusal}
use Rattle.std.specs.Prelude.{Result, Ok, Err}
use Rattle.std.specs.Prelude.{◌≡◌, cond, List, [], ◌∷◌, ◌++◌, ℕ, suc, ◌+◌, ℤ, length, take}
use Rattle.std.proofs.Math.Seq.{paste}
use Rattle.relief.specs.Peaks.{Entry}
use Rattle.relief.specs.Runs.{Batch, Rest}
use Rattle.relief.specs.Plane.{touch_of, stage_of}
use Rattle.record.specs.declared.Peak.{Peak}
use Rattle.record.specs.declared.Refusal.TheVariants.{Rows}
use Rattle.record.specs.Refusals.{Told, granted, told_of, first_of, told_by, bad_rows}
use Rattle.table.specs.Promises.{Hands}
use Rattle.running.specs.declared.Run.{Run}
use Rattle.running.specs.Running.{shape_of, held_of, started_run, column_tests, end_tests, column_run, end_run}

-- ---- Start

-- The values of a record: "rows, columns taken, threshold and whether the run has ended".
abbrev pub started_told : Result Run Refusal → Told
started_told (Ok run) =
    granted (run.rows ∷ run.columns ∷ run.threshold ∷ cond run.ended 1 0 ∷ [])
started_told (Err r) = told_of r

-- "Start: 1."
abbrev pub Starts : ℕ → ℕ → Result Run Refusal → Type 0
Starts rows T answer =
    started_told answer ≡ told_by ((bad_rows rows, Rows) ∷ []) (started_told (Ok (started_run rows T)))

-- ---- Column

-- "when accepted it is copied behind the taken cells"; "At 5 from the column call, the cells just behind the taken ones
-- hold the offered column."
abbrev pub column_grid : Result (Unit {0}) Refusal → Run → List ℤ → List ℤ → List ℤ
column_grid (Err r) run column grid = grid
column_grid (Ok tt) run column grid = paste grid (held_of run) column (length column)

-- the taken cells and the offered column behind them
abbrev pub heights_with : Run → List ℤ → List ℤ → List ℤ
heights_with run column grid = take (held_of run) grid ++ column

-- "hands out, in reading order, the listed peaks closed after it that were not closed peaks before it"
abbrev pub ColumnBatch : Run → List ℤ → List ℤ → List Entry → Type 0
ColumnBatch run column grid =
    Batch (touch_of (shape_of run)) (stage_of (shape_of run) run.columns (heights_with run column grid))
    (stage_of (shape_of run) (suc run.columns) (heights_with run column grid)) run.threshold

pub record Columns (run : Run) (column grid grid' : List ℤ) (work work' : List ℕ) (table table' : List Peak)
    (run' : Run) (answer : Result ℕ Refusal) : Type 0 where
  pub hands : Hands (column_tests run (length column) (length grid) (length work)) (held_of run + run.rows)
      (ColumnBatch run column grid) work work' table table' answer
  pub run_after : run' ≡ column_run answer run
  pub grid_after : grid'
      ≡ column_grid (first_of (column_tests run (length column) (length grid) (length work))) run column grid

-- ---- End

-- "hands out the listed peaks that are still open, in reading order"
abbrev pub EndRest : Run → List ℤ → List Entry → Type 0
EndRest run grid = Rest (touch_of (shape_of run)) (stage_of (shape_of run) run.columns grid) run.threshold

-- The grid is lent to be read.
pub record Ends (run : Run) (grid : List ℤ) (work work' : List ℕ) (table table' : List Peak) (run' : Run)
    (answer : Result ℕ Refusal) : Type 0 where
  pub hands : Hands (end_tests run (length grid) (length work)) (held_of run) (EndRest run grid) work work' table table'
      answer
  pub run_after : run' ≡ end_run answer run
