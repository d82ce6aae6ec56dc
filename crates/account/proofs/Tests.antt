-- The tests of the account and of the check, one behind the other: the first that applies refuses. Assumes nothing.
use Rattle.std.specs.Prelude.{Ok, Err}
use mathlib.Core.Path.{◌≡◌, sym, ◌∙◌, ap}
use mathlib.Core.Bool.{Bool, true, false, not, cond, ◌||◌}
use mathlib.Core.List.{[], ◌∷◌}
use Prim.Native.Nat.{ℕ}
use lib.Dec.{ltb}
use Rattle.record.specs.declared.Refusal.{Refusal}
use Rattle.record.specs.declared.Refusal.TheVariants.{NoPeak, AccountRoom}
use Rattle.record.specs.Refusals.{first_of}
use Rattle.record.proofs.Tests.{first-end, first-before}
use Rattle.heights.specs.Grid.{grid_tests}
use Rattle.account.specs.Promises.{check_tests, account_tests}

module _ (rows cells work : ℕ) (peak : Bool) where
  pub check-early : {r : Refusal} → first_of (grid_tests rows cells work) ≡ Err r
      → first_of (check_tests rows cells work peak) ≡ Err r
  unfolding check_tests
  check-early bad = first-before (grid_tests rows cells work) ((not peak, NoPeak) ∷ []) bad

  pub check-end : first_of (grid_tests rows cells work) ≡ Ok tt
      → first_of (check_tests rows cells work peak) ≡ cond (not peak) (Err NoPeak) (Ok tt)
  unfolding check_tests
  check-end good = first-end (grid_tests rows cells work) (not peak) NoPeak good

  pub check-no-peak : first_of (grid_tests rows cells work) ≡ Ok tt → peak ≡ false
      → first_of (check_tests rows cells work peak) ≡ Err NoPeak
  check-no-peak good e = check-end good ∙ ap (λ (b : Bool). cond (not b) (Err NoPeak) (Ok tt)) e

  pub check-good : first_of (grid_tests rows cells work) ≡ Ok tt → peak ≡ true
      → first_of (check_tests rows cells work peak) ≡ Ok tt
  check-good good e = check-end good ∙ ap (λ (b : Bool). cond (not b) (Err NoPeak) (Ok tt)) e

  module _ (path island : ℕ) where
    pub account-early : {r : Refusal} → first_of (check_tests rows cells work peak) ≡ Err r
        → first_of (account_tests rows cells work peak path island) ≡ Err r
    unfolding account_tests
    account-early bad =
        first-before (check_tests rows cells work peak) ((ltb path cells || ltb island cells, AccountRoom) ∷ []) bad

    pub account-end : first_of (check_tests rows cells work peak) ≡ Ok tt → {b : Bool}
        → b ≡ (ltb path cells || ltb island cells)
        → first_of (account_tests rows cells work peak path island) ≡ cond b (Err AccountRoom) (Ok tt)
    unfolding account_tests
    account-end good e =
        first-end (check_tests rows cells work peak) (ltb path cells || ltb island cells) AccountRoom good
        ∙ ap (λ (b : Bool). cond b (Err AccountRoom) (Ok tt)) (sym e)
