-- The run record: sections "A growing run" and "What comes back" of document 01.
--     shape_of, taken_of, held_of       the shape of a run, the cells that it has taken, and those that the grid holds
--     growing_run rows columns T      the record of a run that has taken so many columns and has not ended
--     started_run, with_column, with_end   a run record at Start, with one column more, and ended
--     run_tests, column_tests, end_tests   the tests before the work, in the paper's order
--     column_run, end_run              the run record after a call
-- Assumes nothing.
use Rattle.std.specs.Prelude.{Result, Ok, Err}
use Rattle.std.specs.Prelude.{Bool, true, false, not, ◌||◌, List, [], ◌∷◌, ◌++◌, ℕ, ◌+◌, ◌*◌, eqb, ltb}
use Rattle.relief.specs.Plane.{Shape, plane_of}
use Rattle.record.specs.declared.Refusal.{Refusal}
use Rattle.record.specs.declared.Refusal.TheVariants.{Rows, Cells, Work, Ended, ColumnLength, GridFull, TakenCells}
use Rattle.record.specs.Refusals.{bad_rows}
use Rattle.running.specs.declared.Run.{Run}

-- ---- the record

abbrev pub shape_of : Run → Shape
shape_of run = plane_of run.rows

-- "Cell number = column x rows + row": the cells of the columns that the record counts.
abbrev pub taken_of : Run → ℕ
taken_of run = run.columns * run.rows

-- Those of them that stand in the lent grid, from its front: all.
abbrev pub held_of : Run → ℕ
held_of run = taken_of run

-- "rows, columns taken, threshold and whether the run has ended": of a run that has not.
abbrev pub growing_run : ℕ → ℕ → ℕ → Run
growing_run rows columns T = record { rows = rows; columns = columns; threshold = T; ended = false }

-- "Start takes rows and threshold and gives a record of zero columns."
abbrev pub started_run : ℕ → ℕ → Run
started_run rows T = growing_run rows 0 T

-- "the record counts one more"
abbrev pub with_column : Run → Run
with_column run =
    record { rows = run.rows; columns = run.columns + 1; threshold = run.threshold; ended = run.ended }

-- "End marks the run ended"
abbrev pub with_end : Run → Run
with_end run = record { rows = run.rows; columns = run.columns; threshold = run.threshold; ended = true }

-- ---- the tests before the work

-- 9: "the record's cells exceed the lent grid or 1,048,576"
abbrev pub bad_record : Run → ℕ → Bool
bad_record run grid = ltb grid (held_of run) || ltb 1048576 (held_of run)

-- What every call with a run record tests first: 1, 9. `grid` is a length, as all that is lent is below.
abbrev pub run_tests : Run → ℕ → List (Bool × Refusal)
run_tests run grid = (bad_rows run.rows, Rows) ∷ (bad_record run grid, TakenCells) ∷ []

-- "Column: 1, 9, 6, 7, 3, 8, 4, 5." 5 is the last test of every call that hands out records (`handed_by`).
unfoldable pub column_tests : Run → ℕ → ℕ → ℕ → List (Bool × Refusal)
column_tests run offered grid work =
    run_tests run grid
    -- 6: "the run has ended"
    ++ ((run.ended, Ended)
    -- 7: "offered column's length is not rows"
    ∷ (not (eqb offered run.rows), ColumnLength)
    -- 3: "more than 1,048,576 cells, or would be with this column"
    ∷ (ltb 1048576 (held_of run + run.rows), Cells)
    -- 8: "the lent grid can't take one more column"
    ∷ (ltb grid (held_of run + run.rows), GridFull)
    -- 4: "work area below 4 numbers of 32 bits per cell, new column counted"
    ∷ (ltb work (16 * (held_of run + run.rows)), Work)
    ∷ [])

-- "End: 1, 9, 6, 4, 5."
unfoldable pub end_tests : Run → ℕ → ℕ → List (Bool × Refusal)
end_tests run grid work = run_tests run grid ++ ((run.ended, Ended) ∷ (ltb work (16 * held_of run), Work) ∷ [])

-- ---- after a call

-- "A refusal returns the run record as it came".
abbrev pub column_run : Result ℕ Refusal → Run → Run
column_run (Ok n) run = with_column run
column_run (Err r) run = run

abbrev pub end_run : Result ℕ Refusal → Run → Run
end_run (Ok n) run = with_end run
end_run (Err r) run = run
