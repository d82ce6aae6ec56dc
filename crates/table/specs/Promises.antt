-- What a call promises that hands out records: sections "What comes back" and "Peak, outranking ground, key height,
-- pass" of document 01. It is said once for all such calls: each has its tests, and its list of entries.
--     handed_by tests room needed    what the call tells, by its tests and the room for the records that are needed
--     table_after a rs t             the row t after an answer that hands out the records rs
--     Worked tests cells w w'        what is known of the work area w after the call, w'
--     Hands                          the promise, with a lent row of records
-- Assumes nothing.
use Rattle.std.specs.Prelude.{Result, Ok, Err}
use Rattle.std.specs.Prelude.{◌≡◌, Bool, List, [], ◌∷◌, ◌++◌, map, ℕ, ◌*◌, ◌≤◌, ltb, length, drop, get_or}
use Rattle.relief.specs.Peaks.{Entry}
use Rattle.record.specs.declared.Peak.{Peak}
use Rattle.record.specs.declared.Refusal.{Refusal}
use Rattle.record.specs.declared.Refusal.TheVariants.{Table}
use Rattle.record.specs.Records.{record_of}
use Rattle.record.specs.Refusals.{Told, granted, handed_told, first_of, told_by}

-- In the order of each such call 5 stands last: "peak table too short", which also returns "the number of records
-- needed".
abbrev pub handed_by : List (Bool × Refusal) → ℕ → ℕ → Told
handed_by tests room needed = told_by (tests ++ ((ltb room needed, Table needed) ∷ [])) (granted (needed ∷ []))

-- "A refusal [..] writes nothing"; "On success table entries [..] beyond those counted stay as they were."
abbrev pub table_after : Result ℕ Refusal → List Peak → List Peak → List Peak
table_after (Ok n) records table = records ++ drop n table
table_after (Err r) records table = table

-- The tests are those before the work. "A refusal [..] writes nothing"; "At a refusal that stands after 4 in its call's
-- order, the work area has been used": 16 bytes a cell of it, and "other lent numbers [..] stay as they were". What
-- those bytes hold then, and on success, is left open (docs/EXCEPTIONS.md).
pub record Worked (tests : List (Bool × Refusal)) (cells : ℕ) (work work' : List ℕ) : Type 0 where
  pub unused : (r : Refusal) → first_of tests ≡ Err r → work' ≡ work
  pub same_length : length work' ≡ length work
  pub beyond : (i : ℕ) → 16 * cells ≤ i → get_or work' i 0 ≡ get_or work i 0

-- Right is what the call hands out: a list, a batch, or the rest of a run.
pub record Hands (tests : List (Bool × Refusal)) (cells : ℕ) (Right : List Entry → Type 0) (work work' : List ℕ)
    (table table' : List Peak) (answer : Result ℕ Refusal) : Type 0 where
  pub entries : List Entry
  pub right : Right entries
  pub answered : handed_told answer ≡ handed_by tests (length table) (length entries)
  pub filled : table' ≡ table_after answer (map record_of entries) table
  pub worked : Worked tests cells work work'
