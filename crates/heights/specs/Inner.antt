-- A grid that passed its tests, and the levels of heights put into the work area: inner contracts.
--     GoodGrid             what is known of a call that its tests have passed
--     Loading, Loaded      before and after the levels of heights are put into the first quarter
-- The bytes behind the work area of n cells, 16 for each, stay as they were.
-- Assumes nothing.
use Rattle.std.specs.Prelude.{◌≡◌, List, ℕ, ◌*◌, ◌≤◌, ◌<◌, ℤ, length, get_or, Ok}
use Rattle.relief.specs.Heights.{levels}
use Rattle.record.specs.Refusals.{first_of}
use Rattle.area.specs.Area.{Area, level_in}
use Rattle.heights.specs.Grid.{grid_tests}

pub record GoodGrid (rows cells work : ℕ) : Type 0 where
  pub good : first_of (grid_tests rows cells work) ≡ Ok tt
  pub some : 0 < rows
  pub few : rows ≤ 1024
  pub fits : cells ≤ 1048576
  pub space : 16 * cells ≤ work

-- what loading the first n heights asks, and what it does
pub record Loading (s : List ℕ) (heights : List ℤ) (n : ℕ) : Type 0 where
  pub area : Area s n
  pub all : n ≤ length heights

pub record Loaded (s t : List ℕ) (heights : List ℤ) (n : ℕ) : Type 0 where
  pub levels_in : (c : ℕ) → c < n → level_in t c ≡ levels heights c
  pub beyond : (i : ℕ) → 16 * n ≤ i → get_or t i 0 ≡ get_or s i 0
  pub len : length t ≡ length s
