-- What is claimed of the outline beyond its contract.
--     OutlinedDiffer     two answers that tell the same are one
--     OutlineUnique      its promise allows one answer and one text room, and one work area but for the bytes that it
--                        uses
--     Claims             all of these
-- Assumes nothing.
use Rattle.record.specs.declared.Refusal.{Refusal}
use Rattle.std.specs.Prelude.{Result}
use Rattle.std.specs.Prelude.{◌≡◌, List, ℕ, ℤ, length}
use Rattle.table.specs.Promises.{Worked}
use Rattle.running.specs.declared.Run.{Run}
use Rattle.running.specs.Running.{held_of}
use Rattle.outline.specs.Promises.{outlined_told, outline_tests, Outlines}

abbrev pub OutlinedDiffer : Type 0
OutlinedDiffer = (a b : Result ℕ Refusal) → outlined_told a ≡ outlined_told b → a ≡ b

-- "Each public call's promise determines its answer and everything it was lent, on all inputs, refusals too; two
-- answers allowed by it are shown equal."
abbrev pub OutlineUnique : Type 0
OutlineUnique = (run : Run) (grid : List ℤ) (levels : ℕ) (work w v room t u : List ℕ) (a b : Result ℕ Refusal)
    → Outlines run grid levels work w room t a → Outlines run grid levels work v room u b
    → (a ≡ b) × (t ≡ u) × Worked (outline_tests run (length grid) levels (length work)) (held_of run) w v

pub record Claims : Type 0 where
  pub outlined-differ : OutlinedDiffer
  pub outline-unique : OutlineUnique
