-- Plane touching, and the shape of a grid: section "Grid, cells and heights" of document 01. Assumes nothing.
use mathlib.Core.{Path.◌≡◌, List.List}
use Rattle.std.specs.Prelude.{ℕ, suc, ◌-◌, ◌*◌, ◌/◌, ◌%◌, ◌≤◌}
use lib.{IntN.ℤ, ListN.take}
use Rattle.relief.specs.{Heights.levels, Runs.Stage}

-- "Cell number = column x rows + row."
abbrev pub row_of : ℕ → ℕ → ℕ
row_of rows cell = cell % rows

abbrev pub column_of : ℕ → ℕ → ℕ
column_of rows cell = cell / rows

-- "differ by at most one"
abbrev pub Near : ℕ → ℕ → Type 0
Near x y = (x ≤ suc y) × (y ≤ suc x)

-- "Two cells touch if they differ by at most one in row and at most one in column, and are not the same cell. Rows 0
-- and the last row are walls."
pub record Plane (rows a b : ℕ) : Type 0 where
  pub row : Near (row_of rows a) (row_of rows b)
  pub column : Near (column_of rows a) (column_of rows b)
  pub other : a ≡ b → ⊥

-- How the cells of a grid lie: in so many rows.
pub record Shape : Type 0 where
  pub rows : ℕ

abbrev pub plane_of : ℕ → Shape
plane_of rows = record { rows = rows }

-- Which cells of a grid of this shape touch.
abbrev pub touch_of : Shape → ℕ → ℕ → Type 0
touch_of shape = Plane shape.rows

-- "the last column" of so many cells: those from here on.
abbrev pub newest_of : Shape → ℕ → ℕ
newest_of shape cells = cells - shape.rows

-- "a run growing by columns": of the heights in reading order, the first columns.
abbrev pub stage_of : Shape → ℕ → List ℤ → Stage
stage_of shape columns heights = record {
  level = levels (take (columns * shape.rows) heights);
  cells = columns * shape.rows;
  newest = newest_of shape (columns * shape.rows);
}
