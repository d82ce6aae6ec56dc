-- Answers and refusals: section "What comes back" of document 01, and the refusals of document 02.
--     Told              what an answer tells the caller: the paper's number, 0 where nothing is refused, and the values
--     granted values    what an answer tells that is no refusal
--     told_of r         what the refusal r tells
--     handed_told a     what the answer of a call tells that hands out records
--     first_of tests    an order of refusals: the first of the tests that applies
--     told_by tests t   what a call tells by its tests, t where none applies
--     bad_rows n        what refusal 1 says of a number of rows, as every call does
-- Assumes nothing.
use Rattle.std.specs.Prelude.{Bool, cond, ◌||◌, List, [], ◌∷◌, ℕ, eqb, ltb, Result, Ok, Err}
use Rattle.record.specs.declared.Refusal.{Refusal}
use Rattle.record.specs.declared.Refusal.TheVariants.{Rows, Length, Cells, Work, Table, Ended}
use Rattle.record.specs.declared.Refusal.TheVariants.{ColumnLength, GridFull, TakenCells, FileLength}
use Rattle.record.specs.declared.Refusal.TheVariants.{FileCounts, Unsound, Room, Levels, TextRoom, NotEnded}
use Rattle.record.specs.declared.Refusal.TheVariants.{NoPeak, AccountRoom}

pub record Told : Type 0 where
  pub number : ℕ
  pub values : List ℕ

abbrev pub granted : List ℕ → Told
granted values = record { number = 0; values = values }

abbrev pub told_of : Refusal → Told
-- "rows are 0 or above 1,024"
told_of Rows = record { number = 1; values = [] }
-- "length of heights is no multiple of rows (C entry: of 4 x rows bytes)"
told_of Length = record { number = 2; values = [] }
-- "more than 1,048,576 cells, or would be with this column"
told_of Cells = record { number = 3; values = [] }
-- "work area below 4 numbers of 32 bits per cell, new column counted"
told_of Work = record { number = 4; values = [] }
-- "peak table too short"; also returns "the number of records needed"
told_of (Table needed) = record { number = 5; values = needed ∷ [] }
-- "the run has ended"
told_of Ended = record { number = 6; values = [] }
-- "offered column's length is not rows"
told_of ColumnLength = record { number = 7; values = [] }
-- "the lent grid can't take one more column"
told_of GridFull = record { number = 8; values = [] }
-- "the record's cells exceed the lent grid or 1,048,576"
told_of TakenCells = record { number = 9; values = [] }
-- "file under 24 bytes, or its length is not the stored total"
told_of FileLength = record { number = 10; values = [] }
-- "n above the cell count, or an offset or total not as computed"
told_of FileCounts = record { number = 11; values = [] }
-- "a record is not sound"; also returns "index of the first such record"
told_of (Unsound index) = record { number = 12; values = index ∷ [] }
-- "room too short for the file (writing) or the heights (reading)"; also returns "bytes or heights needed"
told_of (Room needed) = record { number = 13; values = needed ∷ [] }
-- "levels outside 1 to 64"
told_of Levels = record { number = 14; values = [] }
-- "text room too short"
told_of TextRoom = record { number = 15; values = [] }
-- "run not ended"
told_of NotEnded = record { number = 16; values = [] }
-- "the cell is not a peak's cell"
told_of NoPeak = record { number = 17; values = [] }
-- "path or island room below one number per cell"
told_of AccountRoom = record { number = 18; values = [] }

-- "hands out": how many records
abbrev pub handed_told : Result ℕ Refusal → Told
handed_told (Ok n) = granted (n ∷ [])
handed_told (Err r) = told_of r

-- "Order where several apply": each test says whether its refusal applies, and the first that does is given.
unfoldable pub first_of : List (Bool × Refusal) → Result (Unit {0}) Refusal
first_of [] = Ok tt
first_of (test ∷ tests) = cond test.0 (Err test.1) (first_of tests)

abbrev pub checked_told : Result (Unit {0}) Refusal → Told → Told
checked_told (Ok _) told = told
checked_told (Err r) told = told_of r

abbrev pub told_by : List (Bool × Refusal) → Told → Told
told_by tests told = checked_told (first_of tests) told

-- "rows are 0 or above 1,024"
abbrev pub bad_rows : ℕ → Bool
bad_rows rows = eqb rows 0 || ltb 1024 rows
