-- The outline of an ended run: request (i) of document 02.
--     outlined_told a       what an answer tells the caller
--     bad_levels            what refusal 14 says of a number of levels
--     outline_tests         the tests before the work, in the paper's order
--     outline_by            what the call tells, by its tests and the room for the text
--     text_after            the text room after an answer
--     Outlines              the promise: it determines the answer and the text room on all inputs, and all of the work
--                           area but the bytes that it uses
-- Assumes nothing.
use Rattle.std.specs.Prelude.{Result, Ok, Err}
use Rattle.std.specs.Prelude.{◌≡◌, Bool, not, ◌||◌, List, [], ◌∷◌, ◌++◌, ℕ, ◌*◌, eqb, ltb, ℤ, length, drop}
use Rattle.relief.specs.Plane.{touch_of, stage_of}
use Rattle.relief.specs.Outline.{Outline}
use Rattle.record.specs.declared.Refusal.{Refusal}
use Rattle.record.specs.declared.Refusal.TheVariants.{Work, Levels, TextRoom, NotEnded}
use Rattle.record.specs.Refusals.{Told, granted, told_of, told_by}
use Rattle.table.specs.Promises.{Worked}
use Rattle.running.specs.declared.Run.{Run}
use Rattle.running.specs.Running.{shape_of, held_of, run_tests}

-- the bytes of the text
abbrev pub outlined_told : Result ℕ Refusal → Told
outlined_told (Ok n) = granted (n ∷ [])
outlined_told (Err r) = told_of r

-- "14 levels outside 1 to 64"
abbrev pub bad_levels : ℕ → Bool
bad_levels levels = eqb levels 0 || ltb 64 levels

-- "order 1, 9, 16, 14, 4, 15". `grid` and `work` are lengths.
unfoldable pub outline_tests : Run → ℕ → ℕ → ℕ → List (Bool × Refusal)
outline_tests run grid levels work =
    run_tests run grid
    -- 16: "run not ended"
    ++ ((not run.ended, NotEnded)
    -- 14: "levels outside 1 to 64"
    ∷ (bad_levels levels, Levels)
    -- 4: "work area below 4 numbers of 32 bits per cell"
    ∷ (ltb work (16 * held_of run), Work)
    ∷ [])

-- 15, behind the work: "text room too short". No number comes with it.
abbrev pub outline_by : List (Bool × Refusal) → ℕ → ℕ → Told
outline_by tests room needed = told_by (tests ++ ((ltb room needed, TextRoom) ∷ [])) (granted (needed ∷ []))

-- "A refusal [..] writes nothing"; "On success [..] bytes [..] beyond those counted stay as they were."
abbrev pub text_after : Result ℕ Refusal → List ℕ → List ℕ → List ℕ
text_after (Ok n) text room = text ++ drop n room
text_after (Err r) text room = room

-- The grid is lent to be read.
pub record Outlines (run : Run) (grid : List ℤ) (levels : ℕ) (work work' room room' : List ℕ)
    (answer : Result ℕ Refusal) : Type 0 where
  pub text : List ℕ
  pub right : Outline (touch_of (shape_of run)) (stage_of (shape_of run) run.columns grid).level run.threshold levels
      text
  pub answered : outlined_told answer
      ≡ outline_by (outline_tests run (length grid) levels (length work)) (length room) (length text)
  pub written : room' ≡ text_after answer text room
  pub worked : Worked (outline_tests run (length grid) levels (length work)) (held_of run) work work'
