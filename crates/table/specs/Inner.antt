-- The records that a survey leaves in the work area as flat numbers, and what is asked to fill a lent row with them.
--     Pointed s n c           the work area holds c's numbers, and those of its pass cell
--     peak_in s n c           the record of the peak at the cell c
--     records_in s n count    the records of the first so many cells of the order quarter
--     Fillable t s n count    the row t has room for them, and the work area s holds cells where they are asked for
--     Standing s n count      so many listed cells stand in the order quarter, each with a pass cell
--     room_answer room count  the answer of a call whose work is done
--     HandsFlat               what a call promises that knows only the room of the row
-- Assumes nothing.
use Rattle.std.specs.Prelude.{Result, Ok, Err}
use Rattle.std.specs.Prelude.{◌≡◌, Bool, true, false, cond, List, [], ◌∷◌, ◌++◌, map, ℕ, zero, suc, ◌≤◌, ◌<◌, eqb, ltb}
use Rattle.std.specs.Prelude.{length}
use Rattle.relief.specs.Heights.{height_of}
use Rattle.relief.specs.Peaks.{Entry}
use Rattle.record.specs.declared.Peak.{Peak}
use Rattle.record.specs.declared.Refusal.{Refusal}
use Rattle.record.specs.declared.Refusal.TheVariants.{Table}
use Rattle.record.specs.Records.{with_key, without_key, record_of}
use Rattle.record.specs.Refusals.{handed_told}
use Rattle.area.specs.Area.{Area, level_in, order_in, parent_in, pass_in, cell_in}
use Rattle.table.specs.Promises.{handed_by, Worked}

-- What is asked of one cell, so that its record can be read.
pub record Pointed (s : List ℕ) (n c : ℕ) : Type 0 where
  pub area : Area s n
  pub cell : c < n
  pub pass : cell_in (pass_in s n c) < n

-- A cell that hangs under none has no key height; another's is the height of its pass cell.
unfoldable pub peak_in : List ℕ → ℕ → ℕ → Peak
peak_in s n c =
    let pass = cell_in (pass_in s n c) in
    elim (eqb (parent_in s n c) c) [
      | true ↦ without_key c (height_of (level_in s c))
      | false ↦ with_key c (height_of (level_in s c)) (height_of (level_in s pass)) pass
    ]

unfoldable pub records_in : List ℕ → ℕ → ℕ → List Peak
records_in s n zero = []
records_in s n (suc i) = records_in s n i ++ (peak_in s n (order_in s n i) ∷ [])

pub record Standing (s : List ℕ) (n count : ℕ) : Type 0 where
  pub area : Area s n
  pub few : count ≤ n
  pub cells : (i : ℕ) → i < count → order_in s n i < n
  pub passes : (i : ℕ) → i < count → cell_in (pass_in s n (order_in s n i)) < n

pub record Fillable (t : List Peak) (s : List ℕ) (n count : ℕ) : Type 0 where
  pub standing : Standing s n count
  pub room : count ≤ length t

-- 5 behind the work: "peak table too short", which also returns "the number of records needed"
abbrev pub room_answer : ℕ → ℕ → Result ℕ Refusal
room_answer room count = cond (ltb room count) (Err (Table count)) (Ok count)

-- `Hands` where only the room of the row is known: the records stand in the work area `left`.
pub record HandsFlat (tests : List (Bool × Refusal)) (cells : ℕ) (Right : List Entry → Type 0) (work : List ℕ)
    (room : ℕ) (left : List ℕ) (answer : Result ℕ Refusal) : Type 0 where
  pub entries : List Entry
  pub right : Right entries
  pub answered : handed_told answer ≡ handed_by tests room (length entries)
  pub standing : (n : ℕ) → answer ≡ Ok n → Standing left cells n × (n ≤ room)
  pub records : (n : ℕ) → answer ≡ Ok n → records_in left cells n ≡ map record_of entries
  pub worked : Worked tests cells work left
