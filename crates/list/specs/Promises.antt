-- The whole-grid call: sections "What comes back" and "Peak, outranking ground, key height, pass" of document 01.
--     Lists     the promise of the call: it determines the answer and the row on all inputs, and all of the work area
--               but the bytes that it uses
-- Assumes nothing.
use Rattle.record.specs.declared.Refusal.{Refusal}
use Rattle.std.specs.Prelude.{Result}
use Rattle.std.specs.Prelude.{List, ℕ, ℤ, length}
use Rattle.relief.specs.Heights.{levels}
use Rattle.relief.specs.Peaks.{ListOf}
use Rattle.relief.specs.Plane.{plane_of, touch_of}
use Rattle.record.specs.declared.Peak.{Peak}
use Rattle.heights.specs.Grid.{grid_tests}
use Rattle.table.specs.Promises.{Hands}

-- The list of the definition is there for every grid and is one (`list-exists`, `order-unique` of `theorems`). The
-- heights are lent to be read.
abbrev pub Lists : ℕ → List ℤ → ℕ → List ℕ → List ℕ → List Peak → List Peak → Result ℕ Refusal → Type 0
Lists rows heights T work work' table table' answer =
    Hands (grid_tests rows (length heights) (length work)) (length heights)
    (ListOf (touch_of (plane_of rows)) (levels heights) T) work work' table table' answer
