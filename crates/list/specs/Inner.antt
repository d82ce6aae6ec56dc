-- The whole-grid call without the row.
--     ListsFlat     the promise of `flat`: `Lists` where only the room of the row is known
-- Assumes nothing.
use Rattle.record.specs.declared.Refusal.{Refusal}
use Rattle.std.specs.Prelude.{Result, List, ℕ, ℤ, length}
use Rattle.relief.specs.Heights.{levels}
use Rattle.relief.specs.Peaks.{ListOf}
use Rattle.relief.specs.Plane.{plane_of, touch_of}
use Rattle.heights.specs.Grid.{grid_tests}
use Rattle.table.specs.Inner.{HandsFlat}

abbrev pub ListsFlat : ℕ → List ℤ → ℕ → List ℕ → ℕ → List ℕ → Result ℕ Refusal → Type 0
ListsFlat rows heights T work room left answer =
    HandsFlat (grid_tests rows (length heights) (length work)) (length heights)
    (ListOf (touch_of (plane_of rows)) (levels heights) T) work room left answer
