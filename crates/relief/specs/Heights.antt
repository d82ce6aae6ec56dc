-- Heights and levels: section "Grid, cells and heights" of document 01. The level of a height is the height moved up by
-- 2^31: a natural number, in the order of the heights; levels differ by what heights differ by. Assumes nothing.
use mathlib.Core.{Bool.true, Bool.false, List.List}
use Rattle.std.specs.Prelude.{ℕ, ◌+◌, ◌-◌}
use lib.{Dec.leb, IntN.ℤ, IntN.pos, IntN.negsuc, ListN.get_or}

-- "-2147483648 is the blank mark and no height"
abbrev pub BLANK : ℤ
BLANK = negsuc 2147483647

-- 0 for the blank mark, 1 to 2^32 - 1 for a legal height. `negsuc n` is -(n + 1).
unfoldable pub level_of : ℤ → ℕ
level_of (pos n) = n + 2147483648
level_of (negsuc n) = 2147483647 - n

-- The height at a level.
unfoldable pub height_of : ℕ → ℤ
height_of l = elim (leb 2147483648 l) [ true ↦ pos (l - 2147483648) | false ↦ negsuc (2147483647 - l) ]

-- "Heights are lent as signed 32-bit numbers in reading order": the level of each cell, 0 behind the grid's end.
unfoldable pub levels : List ℤ → ℕ → ℕ
levels heights cell = level_of (get_or heights cell BLANK)
