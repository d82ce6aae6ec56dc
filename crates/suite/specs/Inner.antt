-- The C entry below its promise.
--     SuiteFlat      the promise where only the room of the table is known, in records
-- Assumes nothing.
use Rattle.record.specs.declared.Refusal.{Refusal}
use Rattle.std.specs.Prelude.{Result, List, ℕ, ◌/◌, length}
use Rattle.relief.specs.Heights.{levels}
use Rattle.relief.specs.Peaks.{ListOf}
use Rattle.relief.specs.Plane.{plane_of, touch_of}
use Rattle.table.specs.Inner.{HandsFlat}
use Rattle.layout.specs.Layout.{heights_from}
use Rattle.suite.specs.Promises.{suite_tests}

abbrev pub SuiteFlat : ℕ → List ℕ → ℕ → List ℕ → ℕ → List ℕ → Result ℕ Refusal → Type 0
SuiteFlat rows heights T work room left answer =
    HandsFlat (suite_tests rows (length heights) (length work)) (length heights / 4)
    (ListOf (touch_of (plane_of rows)) (levels (heights_from heights 0 (length heights / 4))) T) work room left answer
