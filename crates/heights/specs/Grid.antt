-- A lent grid of heights: sections "Grid, cells and heights" and "What comes back" of document 01.
--     grid_tests     the tests before the work, in the paper's order
-- Assumes nothing.
use Rattle.std.specs.Prelude.{Bool, not, List, [], ◌∷◌, ℕ, ◌*◌, ◌%◌, eqb, ltb}
use Rattle.record.specs.declared.Refusal.{Refusal}
use Rattle.record.specs.declared.Refusal.TheVariants.{Rows, Length, Cells, Work}
use Rattle.record.specs.Refusals.{bad_rows}

-- The beginning "1, 2, 3, 4" of the orders of List, and of Account and its check of document 02 (iii): "List: 1, 2, 3,
-- 4, 5." and "order 1, 2, 3, 4, 17, 18, the check's to 17". 5 is the last test of every call that hands out records
-- (`handed_by` of `table`). `work` is in bytes, 16 for "4 numbers of 32 bits per cell".
unfoldable pub grid_tests : ℕ → ℕ → ℕ → List (Bool × Refusal)
grid_tests rows cells work =
    -- 1: "rows are 0 or above 1,024"
    (bad_rows rows, Rows)
    -- 2: "length of heights is no multiple of rows"
    ∷ (not (eqb (cells % rows) 0), Length)
    -- 3: "more than 1,048,576 cells"
    ∷ (ltb 1048576 cells, Cells)
    -- 4: "work area below 4 numbers of 32 bits per cell"
    ∷ (ltb work (16 * cells), Work)
    ∷ []
