-- A trail put into a row: inner contracts.
--     TrailIn s n at l       l is the trail to the place `at` of the queue in the work area
--     Trailing s n at        what is asked to follow it
-- Assumes nothing.
use Rattle.std.specs.Prelude.{List, ℕ, ◌≤◌, ◌<◌}
use Rattle.area.specs.Area.{Area, order_in, parent_in}
use Rattle.flood.specs.Flood.{Trail}

abbrev pub TrailIn : List ℕ → ℕ → ℕ → List ℕ → Type 0
TrailIn s n at l = Trail (order_in s n) (parent_in s n) at l

-- The way back by places falls, to the first of them.
pub record Trailing (s : List ℕ) (n at : ℕ) : Type 0 where
  pub area : Area s n
  pub count : ℕ
  pub few : count ≤ n
  pub place : at < count
  pub cells : (i : ℕ) → i < count → order_in s n i < n
  pub falls : (i : ℕ) → 0 < i → i < count → parent_in s n (order_in s n i) < i
  pub row : List ℕ
  pub trail : TrailIn s n at row
