-- The promises of the timed calls: those of `account::account` and `account::check`, with the answer as one signed
-- number.
--     MeterAccounts, MeterChecks    the promises of the two calls
-- Assumes nothing.
use Rattle.record.specs.declared.Refusal.{Refusal}
use Rattle.std.specs.Prelude.{Result}
use Rattle.std.specs.Prelude.{List, ◌≡◌, ℕ, ℤ, Bool}
use Rattle.account.specs.declared.Given.{Given}
use Rattle.account.specs.Promises.{accounted_told, verdict_told, Accounts, Checks}
use Rattle.layout.specs.Promises.{signed_told}

-- `Accounts` of `account`; of what it tells, the first number: the level of the key height.
pub record MeterAccounts (rows : ℕ) (heights : List ℤ) (cell : ℕ) (work work' path path' island island' : List ℕ)
    (answer : ℤ) : Type 0 where
  pub accounted : Result Given Refusal
  pub accounts : Accounts rows heights cell work work' path path' island island' accounted
  pub answered : answer ≡ signed_told (accounted_told accounted)

-- `Checks` of `account`.
pub record MeterChecks (rows : ℕ) (heights : List ℤ) (cell : ℕ) (key : ℤ) (path island work work' : List ℕ)
    (answer : ℤ) : Type 0 where
  pub verdict : Result Bool Refusal
  pub checks : Checks rows heights cell key path island work work' verdict
  pub answered : answer ≡ signed_told (verdict_told verdict)
