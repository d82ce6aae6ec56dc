-- The C entry: the last paragraph of section "What comes back" of document 01, over the layouts of "Run file".
--     suite_tests    the tests before the work, in the paper's order
--     SuiteLists     the promise of the call: it determines the answer and the table on all inputs, and all of the work
--                    area but the bytes that it uses
-- A height has 4 bytes. Assumes nothing.
use Rattle.std.specs.Prelude.{Bool, not, List, [], ◌∷◌, ℕ, ◌*◌, ◌/◌, ◌%◌, eqb, ltb, ℤ, length}
use Rattle.relief.specs.Heights.{levels}
use Rattle.relief.specs.Peaks.{ListOf}
use Rattle.relief.specs.Plane.{plane_of, touch_of}
use Rattle.record.specs.declared.Refusal.{Refusal}
use Rattle.record.specs.declared.Refusal.TheVariants.{Rows, Length, Cells, Work}
use Rattle.record.specs.Refusals.{bad_rows}
use Rattle.layout.specs.Layout.{heights_from}
use Rattle.layout.specs.Promises.{HandsBytes}

-- "List: 1, 2, 3, 4, 5." 5 is the last test of every call that hands out records (`handed_by`). Heights and work area
-- are counted in bytes.
unfoldable pub suite_tests : ℕ → ℕ → ℕ → List (Bool × Refusal)
suite_tests rows bytes work =
    -- 1: "rows are 0 or above 1,024"
    (bad_rows rows, Rows)
    -- 2: "length of heights is no multiple of [..] 4 x rows bytes"
    ∷ (not (eqb (bytes % (4 * rows)) 0), Length)
    -- 3: "more than 1,048,576 cells"
    ∷ (ltb 1048576 (bytes / 4), Cells)
    -- 4: "work area below 4 numbers of 32 bits per cell": "Its work area is bytes, 16 per cell"
    ∷ (ltb work (16 * (bytes / 4)), Work)
    ∷ []

-- "passes heights and records as bytes, in the file's layouts". The list of the definition is there for every grid and
-- is one (`list-exists`, `order-unique` of `theorems`). The heights are lent to be read.
abbrev pub SuiteLists : ℕ → List ℕ → ℕ → List ℕ → List ℕ → List ℕ → List ℕ → ℤ → Type 0
SuiteLists rows heights T work work' table table' answer =
    HandsBytes (suite_tests rows (length heights) (length work)) (length heights / 4)
    (ListOf (touch_of (plane_of rows)) (levels (heights_from heights 0 (length heights / 4))) T) work work' table table'
    answer
