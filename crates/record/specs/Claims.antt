-- What is claimed of refusals and answers beyond the contracts.
--     RefusalsDiffer    two refusals that tell the same are one
--     HandedDiffer      and so are two answers of calls that hand out records
--     Claims            both
-- Assumes nothing.
use Rattle.std.specs.Prelude.{◌≡◌, ℕ, Result}
use Rattle.record.specs.declared.Refusal.{Refusal}
use Rattle.record.specs.Refusals.{told_of, handed_told}

abbrev pub RefusalsDiffer : Type 0
RefusalsDiffer = (a b : Refusal) → told_of a ≡ told_of b → a ≡ b

abbrev pub HandedDiffer : Type 0
HandedDiffer = (a b : Result ℕ Refusal) → handed_told a ≡ handed_told b → a ≡ b

pub record Claims : Type 0 where
  pub refusals-differ : RefusalsDiffer
  pub handed-differ : HandedDiffer
