-- What is claimed of the calls of a run beyond their contracts.
--     StartUnique, ColumnUnique, EndUnique    the promises allow one answer, one record, one grid and one row of
--                                             records, and one work area but for the bytes that are used
--     ColumnFlatUnique, EndFlatUnique         the same of the calls without the row, with the records that they leave
--     ColumnTakes, ColumnKeeps                the taken cells after an accepted column, and after a refused one
--     RunHolds                                demand 3, from the promises of the calls
-- Assumes nothing.
use Rattle.std.specs.Prelude.{Result, Ok, Err}
use Rattle.std.specs.Prelude.{◌≡◌, List, ◌++◌, ℕ, ◌+◌, ℤ, length, take}
use Rattle.relief.specs.Peaks.{Entry}
use Rattle.record.specs.declared.Peak.{Peak}
use Rattle.record.specs.declared.Refusal.{Refusal}
use Rattle.table.specs.Promises.{Worked}
use Rattle.table.specs.Inner.{records_in}
use Rattle.running.specs.declared.Run.{Run}
use Rattle.running.specs.Running.{shape_of, held_of, column_tests, end_tests}
use Rattle.run.specs.Promises.{Starts, Columns, Ends}
use Rattle.run.specs.Inner.{ColumnsFlat, EndsFlat}
use Rattle.run.specs.WholeRun.{Calls, HoldsList}

-- ---- one outcome

abbrev pub StartUnique : Type 0
StartUnique = (rows T : ℕ) (a b : Result Run Refusal) → Starts rows T a → Starts rows T b → a ≡ b

abbrev pub ColumnUnique : Type 0
ColumnUnique = (run run' run'' : Run) (column grid g h : List ℤ) (work w v : List ℕ) (table t u : List Peak)
    (a b : Result ℕ Refusal) → Columns run column grid g work w table t run' a
    → Columns run column grid h work v table u run'' b
    → (a ≡ b) × (run' ≡ run'') × (g ≡ h) × (t ≡ u)
    × Worked (column_tests run (length column) (length grid) (length work)) (held_of run + run.rows) w v

abbrev pub EndUnique : Type 0
EndUnique = (run run' run'' : Run) (grid : List ℤ) (work w v : List ℕ) (table t u : List Peak) (a b : Result ℕ Refusal)
    → Ends run grid work w table t run' a → Ends run grid work v table u run'' b
    → (a ≡ b) × (run' ≡ run'') × (t ≡ u) × Worked (end_tests run (length grid) (length work)) (held_of run) w v

abbrev pub ColumnFlatUnique : Type 0
ColumnFlatUnique = (run run' run'' : Run) (column grid g h : List ℤ) (work w v : List ℕ) (room : ℕ)
    (a b : Result ℕ Refusal) → ColumnsFlat run column grid g work room w run' a
    → ColumnsFlat run column grid h work room v run'' b
    → (a ≡ b) × (run' ≡ run'') × (g ≡ h)
    × ((n : ℕ) → a ≡ Ok n → records_in w (held_of run + run.rows) n ≡ records_in v (held_of run + run.rows) n)
    × Worked (column_tests run (length column) (length grid) (length work)) (held_of run + run.rows) w v

abbrev pub EndFlatUnique : Type 0
EndFlatUnique = (run run' run'' : Run) (grid : List ℤ) (work w v : List ℕ) (room : ℕ) (a b : Result ℕ Refusal)
    → EndsFlat run grid work room w run' a → EndsFlat run grid work room v run'' b
    → (a ≡ b) × (run' ≡ run'')
    × ((n : ℕ) → a ≡ Ok n → records_in w (held_of run) n ≡ records_in v (held_of run) n)
    × Worked (end_tests run (length grid) (length work)) (held_of run) w v

-- ---- the taken cells

-- "when accepted it is copied behind the taken cells": so the grid, lent again, meets what `Calls` asks of it.
abbrev pub ColumnTakes : Type 0
ColumnTakes = (run run' : Run) (column grid grid' : List ℤ) (work work' : List ℕ) (table table' : List Peak) (n : ℕ)
    → Columns run column grid grid' work work' table table' run' (Ok n)
    → take (held_of run') grid' ≡ take (held_of run) grid ++ column

-- "a refusal changes [..] no run record and no cell already taken", 5 included
abbrev pub ColumnKeeps : Type 0
ColumnKeeps = (run run' : Run) (column grid grid' : List ℤ) (work work' : List ℕ) (table table' : List Peak)
    (r : Refusal) → Columns run column grid grid' work work' table table' run' (Err r)
    → (run' ≡ run) × (take (held_of run) grid' ≡ take (held_of run) grid)

-- ---- demand 3

-- From Start to an accepted End.
abbrev pub RunHolds : Type 0
RunHolds = (run run' : Run) (cells grid : List ℤ) (batches : List (List Entry)) (n : ℕ)
    (work work' : List ℕ) (table table' : List Peak)
    → Calls run cells batches → take (held_of run) grid ≡ cells
    → (e : Ends run grid work work' table table' run' (Ok n))
    → HoldsList (shape_of run) run.threshold cells batches e.hands.entries

pub record Claims : Type 0 where
  pub start-unique : StartUnique
  pub column-unique : ColumnUnique
  pub end-unique : EndUnique
  pub column-flat-unique : ColumnFlatUnique
  pub end-flat-unique : EndFlatUnique
  pub column-takes : ColumnTakes
  pub column-keeps : ColumnKeeps
  pub run_holds : RunHolds
