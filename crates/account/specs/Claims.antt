-- What is claimed of the account and its check beyond their contracts.
--     AccountedDiffer     two answers that tell the same are one
--     AccountUnique       the promise of the account allows one answer and one of each row, and one work area but for
--                         the bytes that it uses
--     VerdictDiffer, CheckUnique    the same of the check
--     AccountPasses       what the account gives, the check accepts
--     Claims              all of these
-- Assumes nothing.
use Rattle.record.specs.declared.Refusal.{Refusal}
use Rattle.std.specs.Prelude.{Result, Ok}
use Rattle.std.specs.Prelude.{◌≡◌, Bool, true, List, ℕ, ℤ, length, take}
use Rattle.heights.specs.Grid.{grid_tests}
use Rattle.table.specs.Promises.{Worked}
use Rattle.account.specs.declared.Given.{Given}
use Rattle.account.specs.Promises.{accounted_told, verdict_told, key_fits, Accounts, Checks}

abbrev pub AccountedDiffer : Type 0
AccountedDiffer =
    (a b : Result Given Refusal) → key_fits a → key_fits b → accounted_told a ≡ accounted_told b → a ≡ b

abbrev pub VerdictDiffer : Type 0
VerdictDiffer = (a b : Result Bool Refusal) → verdict_told a ≡ verdict_told b → a ≡ b

-- "Each public call's promise determines its answer and everything it was lent, on all inputs, refusals too; two
-- answers allowed by it are shown equal."
abbrev pub AccountUnique : Type 0
AccountUnique = (rows : ℕ) (heights : List ℤ) (cell : ℕ) (work w v path t u island k l : List ℕ)
    (a b : Result Given Refusal)
    → Accounts rows heights cell work w path t island k a → Accounts rows heights cell work v path u island l b
    → (a ≡ b) × (t ≡ u) × (k ≡ l) × Worked (grid_tests rows (length heights) (length work)) (length heights) w v

abbrev pub CheckUnique : Type 0
CheckUnique = (rows : ℕ) (heights : List ℤ) (cell : ℕ) (key : ℤ) (path island work w v : List ℕ)
    (a b : Result Bool Refusal)
    → Checks rows heights cell key path island work w a → Checks rows heights cell key path island work v b
    → (a ≡ b) × Worked (grid_tests rows (length heights) (length work)) (length heights) w v

-- "The tool's own always passes": given the key height and the counted parts of both rows, the check says yes, wherever
-- its work area is long enough.
abbrev pub AccountPasses : Type 0
AccountPasses = (rows : ℕ) (heights : List ℤ) (cell : ℕ) (key : ℤ) (p i : ℕ)
    (work w path t island k work' v : List ℕ) (b : Result Bool Refusal)
    → Accounts rows heights cell work w path t island k (Ok (record { key = key; path = p; island = i }))
    → length work ≡ length work' → Checks rows heights cell key (take p t) (take i k) work' v b → b ≡ Ok true

pub record Claims : Type 0 where
  pub accounted-differ : AccountedDiffer
  pub account-unique : AccountUnique
  pub verdict-differ : VerdictDiffer
  pub check-unique : CheckUnique
  pub account-passes : AccountPasses
