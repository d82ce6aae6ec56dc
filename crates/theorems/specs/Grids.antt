-- The marked grids of section "Grids to check by" of document 01, and the outline of request (i) and the pass of
-- request (ii) of document 02, as one table. Assumes nothing.
use mathlib.Core.{Path.◌≡◌, List.List, List.[], List.◌∷◌}
use Rattle.std.specs.Prelude.{ℕ, suc, ◌*◌}
use lib.{IntN.ℤ, IntN.pos, IntN.negsuc, ListN.length}
use Rattle.relief.specs.Heights.{BLANK, level_of, levels}
use Rattle.relief.specs.Peaks.{missing, key, Entry, ListOf}
use Rattle.relief.specs.{Runs.Batch, Runs.Rest, Plane.Shape, Plane.plane_of, Plane.touch_of, Plane.stage_of}
use Rattle.relief.specs.Outline.{Outline}

-- "records as cell, height, key, pass; "-" is missing"
abbrev pub lone : ℕ → ℤ → Entry
lone cell height = record { cell = cell; level = level_of height; key = missing }

abbrev pub keyed : ℕ → ℤ → ℤ → ℕ → Entry
keyed cell height k pass = record { cell = cell; level = level_of height; key = key (level_of k) pass }

-- A grid with its list at the threshold T, a run with its batches and what End hands out, or a grid with the text of
-- its outline to so many levels.
pub data Example : Type 0 where
  grid : (rows T : ℕ) (heights : List ℤ) (list : List Entry) → Example
  run : (rows T : ℕ) (heights : List ℤ) (batches : List (List Entry)) (rest : List Entry) → Example
  outline : (rows T depths : ℕ) (heights : List ℤ) (text : List ℕ) → Example

-- The columns after the first j, offered one by one, hand out these batches, and End after them the rest.
abbrev pub HandedOut : Shape → ℕ → List ℤ → ℕ → List (List Entry) → List Entry → Type 0
HandedOut shape T heights j [] rest =
    (j * shape.rows ≡ length heights) × Rest (touch_of shape) (stage_of shape j heights) T rest
HandedOut shape T heights j (batch ∷ batches) rest =
    Batch (touch_of shape) (stage_of shape j heights) (stage_of shape (suc j) heights) T batch
    × HandedOut shape T heights (suc j) batches rest

-- Each example is as the definitions say.
abbrev pub Follow : List Example → Type 0
Follow [] = Unit {0}
Follow (grid rows T heights list ∷ xs) = ListOf (touch_of (plane_of rows)) (levels heights) T list × Follow xs
Follow (run rows T heights batches rest ∷ xs) = HandedOut (plane_of rows) T heights 0 batches rest × Follow xs
Follow (outline rows T depths heights text ∷ xs) =
    Outline (touch_of (plane_of rows)) (levels heights) T depths text × Follow xs

unfoldable pub marked : List Example
marked =
    -- "no columns: empty list", "blank alone: empty list", "0: one peak 0, 0, -, -"
    grid 1 1 [] []
    ∷ grid 1 1 (BLANK ∷ []) []
    ∷ grid 1 1 (pos 0 ∷ []) (lone 0 (pos 0) ∷ [])
    -- "5 3 5: peaks 0, 5, -, - and 2, 5, 3, 1. At T = 2 both; at T = 3 only the first."
    ∷ grid 1 1 (pos 5 ∷ pos 3 ∷ pos 5 ∷ []) (lone 0 (pos 5) ∷ keyed 2 (pos 5) (pos 3) 1 ∷ [])
    ∷ grid 1 2 (pos 5 ∷ pos 3 ∷ pos 5 ∷ []) (lone 0 (pos 5) ∷ keyed 2 (pos 5) (pos 3) 1 ∷ [])
    ∷ grid 1 3 (pos 5 ∷ pos 3 ∷ pos 5 ∷ []) (lone 0 (pos 5) ∷ [])
    -- "5 5 5: one peak at 0", "5 blank 6: peaks at 0 and 2, both without key"
    ∷ grid 1 1 (pos 5 ∷ pos 5 ∷ pos 5 ∷ []) (lone 0 (pos 5) ∷ [])
    ∷ grid 1 1 (pos 5 ∷ BLANK ∷ pos 6 ∷ []) (lone 0 (pos 5) ∷ lone 2 (pos 6) ∷ [])
    -- "2147483647 -2147483647 2147483647: the second has key -2147483647, pass 1, prominence 4294967294."
    ∷ grid 1 4294967294 (pos 2147483647 ∷ negsuc 2147483646 ∷ pos 2147483647 ∷ [])
    (lone 0 (pos 2147483647) ∷ keyed 2 (pos 2147483647) (negsuc 2147483646) 1 ∷ [])
    ∷ grid 1 4294967295 (pos 2147483647 ∷ negsuc 2147483646 ∷ pos 2147483647 ∷ []) (lone 0 (pos 2147483647) ∷ [])
    -- "Columns 9 2 5 4 1 offered one by one at T = 1: the fifth hands out 2, 5, 2, 1; the first four nothing; End hands
    -- out 0, 9, -, -."
    ∷ run 1 1 (pos 9 ∷ pos 2 ∷ pos 5 ∷ pos 4 ∷ pos 1 ∷ [])
    ([] ∷ [] ∷ [] ∷ [] ∷ (keyed 2 (pos 5) (pos 2) 1 ∷ []) ∷ []) (lone 0 (pos 9) ∷ [])
    -- "5 then blank: the blank column hands out 0, 5, -, -."
    ∷ run 1 1 (pos 5 ∷ BLANK ∷ []) ([] ∷ (lone 0 (pos 5) ∷ []) ∷ []) []
    -- "Two rows, cells 8 1 1 7: one peak, at 0; the 7 touches the 8 at a corner."
    ∷ grid 2 1 (pos 8 ∷ pos 1 ∷ pos 1 ∷ pos 7 ∷ []) (lone 0 (pos 8) ∷ [])
    -- "In the one-row run 4 6 4 9 the marker for the 6 stands at cell 0, a shelf that leads nowhere." The pass "is cell
    -- 2".
    ∷ grid 1 1 (pos 4 ∷ pos 6 ∷ pos 4 ∷ pos 9 ∷ []) (keyed 1 (pos 6) (pos 4) 2 ∷ lone 3 (pos 9) ∷ [])
    -- "The one-row run 9 2 5 4 7 at T = 1 and two levels prints `1 peak 0 9 0`, `1 pass 1 2`, `2 peak 4 7 1`": three
    -- lines, with a line feed behind each.
    ∷ outline 1 1 2 (pos 9 ∷ pos 2 ∷ pos 5 ∷ pos 4 ∷ pos 7 ∷ [])
    (49 ∷ 32 ∷ 112 ∷ 101 ∷ 97 ∷ 107 ∷ 32 ∷ 48 ∷ 32 ∷ 57 ∷ 32 ∷ 48 ∷ 10
    ∷ 49 ∷ 32 ∷ 112 ∷ 97 ∷ 115 ∷ 115 ∷ 32 ∷ 49 ∷ 32 ∷ 50 ∷ 10
    ∷ 50 ∷ 32 ∷ 112 ∷ 101 ∷ 97 ∷ 107 ∷ 32 ∷ 52 ∷ 32 ∷ 55 ∷ 32 ∷ 49 ∷ 10 ∷ [])
    -- "Passes under one peak go by falling height": of the one-row run 8 3 5 1 4 the text is `1 peak 0 8 0`,
    -- `1 pass 1 3`, `2 peak 2 5 0`, `1 pass 3 1`, `2 peak 4 4 0`. This one is not the paper's.
    ∷ outline 1 1 2 (pos 8 ∷ pos 3 ∷ pos 5 ∷ pos 1 ∷ pos 4 ∷ [])
    (49 ∷ 32 ∷ 112 ∷ 101 ∷ 97 ∷ 107 ∷ 32 ∷ 48 ∷ 32 ∷ 56 ∷ 32 ∷ 48 ∷ 10
    ∷ 49 ∷ 32 ∷ 112 ∷ 97 ∷ 115 ∷ 115 ∷ 32 ∷ 49 ∷ 32 ∷ 51 ∷ 10
    ∷ 50 ∷ 32 ∷ 112 ∷ 101 ∷ 97 ∷ 107 ∷ 32 ∷ 50 ∷ 32 ∷ 53 ∷ 32 ∷ 48 ∷ 10
    ∷ 49 ∷ 32 ∷ 112 ∷ 97 ∷ 115 ∷ 115 ∷ 32 ∷ 51 ∷ 32 ∷ 49 ∷ 10
    ∷ 50 ∷ 32 ∷ 112 ∷ 101 ∷ 97 ∷ 107 ∷ 32 ∷ 52 ∷ 32 ∷ 52 ∷ 32 ∷ 48 ∷ 10 ∷ [])
    ∷ []
