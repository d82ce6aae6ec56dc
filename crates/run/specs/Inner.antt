-- Column and End below their promises.
--     ColumnsFlat, EndsFlat    `Columns` and `Ends` where only the room of the row is known: the records stand in the
--                              work area
-- Assumes nothing.
use Rattle.record.specs.declared.Refusal.{Refusal}
use Rattle.std.specs.Prelude.{Result}
use Rattle.std.specs.Prelude.{◌≡◌, List, ℕ, ◌+◌, ℤ, length}
use Rattle.record.specs.Refusals.{first_of}
use Rattle.table.specs.Inner.{HandsFlat}
use Rattle.running.specs.declared.Run.{Run}
use Rattle.running.specs.Running.{held_of, column_tests, end_tests, column_run, end_run}
use Rattle.run.specs.Promises.{column_grid, ColumnBatch, EndRest}

pub record ColumnsFlat (run : Run) (column grid grid' : List ℤ) (work : List ℕ) (room : ℕ) (left : List ℕ)
    (run' : Run) (answer : Result ℕ Refusal) : Type 0 where
  pub hands : HandsFlat (column_tests run (length column) (length grid) (length work)) (held_of run + run.rows)
      (ColumnBatch run column grid) work room left answer
  pub run_after : run' ≡ column_run answer run
  pub grid_after : grid'
      ≡ column_grid (first_of (column_tests run (length column) (length grid) (length work))) run column grid

pub record EndsFlat (run : Run) (grid : List ℤ) (work : List ℕ) (room : ℕ) (left : List ℕ) (run' : Run)
    (answer : Result ℕ Refusal) : Type 0 where
  pub hands : HandsFlat (end_tests run (length grid) (length work)) (held_of run) (EndRest run grid) work room left
      answer
  pub run_after : run' ≡ end_run answer run
