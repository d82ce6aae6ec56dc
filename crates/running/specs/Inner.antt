-- What is known of a call on a run that its tests have passed: GoodColumn, GoodEnd. Assumes nothing.
use Rattle.std.specs.Prelude.{Ok}
use Rattle.std.specs.Prelude.{◌≡◌, ℕ, ◌+◌, ◌*◌, ◌≤◌, ◌<◌}
use Rattle.record.specs.Refusals.{first_of}
use Rattle.running.specs.declared.Run.{Run}
use Rattle.running.specs.Running.{held_of, column_tests, end_tests}

pub record GoodColumn (run : Run) (offered grid work : ℕ) : Type 0 where
  pub good : first_of (column_tests run offered grid work) ≡ Ok tt
  pub some : 0 < run.rows
  pub few : run.rows ≤ 1024
  pub whole : offered ≡ run.rows
  pub cells : held_of run + run.rows ≤ 1048576
  pub fits : held_of run + run.rows ≤ grid
  pub space : 16 * (held_of run + run.rows) ≤ work

pub record GoodEnd (run : Run) (grid work : ℕ) : Type 0 where
  pub good : first_of (end_tests run grid work) ≡ Ok tt
  pub some : 0 < run.rows
  pub few : run.rows ≤ 1024
  pub cells : held_of run ≤ 1048576
  pub fits : held_of run ≤ grid
  pub space : 16 * held_of run ≤ work
