-- What the functions below `write` ask and promise.
--     grid_tests                               the tests before any record is looked at
--     Few cells n unsound                      what is known of the index of the first unsound record
--     GridPut rows heights n unsound s s' a    a is the answer, and s' the room s with header and heights in it
-- Assumes nothing.
use Rattle.std.specs.Prelude.{Bool, List, [], ◌∷◌, ◌++◌, map, ◌≡◌, ℕ, ◌≤◌, ◌<◌, ℤ, Option, Some, None, Result}
use Rattle.std.specs.Prelude.{length, take}
use Rattle.record.specs.declared.Refusal.{Refusal}
use Rattle.record.specs.Refusals.{granted, told_by}
use Rattle.words.specs.Words.{over}
use Rattle.layout.specs.Layout.{bits_of, bytes_of, total_of, header_of}
use Rattle.layout.specs.Promises.{written_told, write_tests, room_after}

-- The tests of the grid, which stand first in the order of `write`. They look at no record and nothing lent.
abbrev pub grid_tests : ℕ → ℕ → List (Bool × Refusal)
grid_tests rows cells = take 3 (write_tests rows cells 0 0 0)

-- Sound records have cells that rise, so there are no more of them than cells.
abbrev pub Few : ℕ → ℕ → Option ℕ → Type 0
Few cells n None = n ≤ cells
Few cells n (Some i) = (i < n) × (i ≤ cells)

pub record GridPut (rows : ℕ) (heights : List ℤ) (n unsound : ℕ) (s s' : List ℕ) (a : Result ℕ Refusal) : Type 0 where
  pub answered :
      written_told a
      ≡ told_by (write_tests rows (length heights) n unsound (length s)) (granted (total_of (length heights) n ∷ []))
  pub room : s' ≡ room_after a (over s 0 (bytes_of (header_of rows (length heights) n ++ map bits_of heights))) s
