-- A grid listed by a call that has tests of its own.
--     Listable      what is asked of a grid to be listed: that its call passed the tests before the work
--     ListMade      what then is promised, whatever those tests are
-- Assumes nothing.
use Rattle.record.specs.declared.Refusal.{Refusal}
use Rattle.std.specs.Prelude.{Result, Ok, Bool, List, ℕ, ℤ, length, ◌≡◌, ◌*◌, ◌≤◌, ◌<◌}
use Rattle.record.specs.Refusals.{first_of}
use Rattle.relief.specs.Heights.{levels}
use Rattle.relief.specs.Peaks.{ListOf}
use Rattle.relief.specs.Plane.{plane_of, touch_of}
use Rattle.table.specs.Inner.{HandsFlat}

pub record Listable (rows cells work : ℕ) : Type 0 where
  pub some : 0 < rows
  pub few : rows ≤ 1024
  pub fits : cells ≤ 1048576
  pub space : 16 * cells ≤ work

abbrev pub ListMade : ℕ → List ℤ → ℕ → List ℕ → ℕ → List ℕ → Result ℕ Refusal → Type 0
ListMade rows heights T work room left answer =
    (tests : List (Bool × Refusal)) → first_of tests ≡ Ok tt →
    HandsFlat tests (length heights) (ListOf (touch_of (plane_of rows)) (levels heights) T) work room left answer
