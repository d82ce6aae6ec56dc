-- The C entry: what its tests tell.
--     bytes-listable    where none applies the grid may be listed
-- Assumes nothing.
use Rattle.std.specs.Prelude.{Ok}
use mathlib.Core.Path.{◌≡◌}
use Prim.Native.Nat.{ℕ, ◌*◌, ◌/◌}
use native.Mathlib.Omega.{arith}
use borrow.Author.Tests.{ltb-false}
use Rattle.record.specs.Refusals.{first_of}
use Rattle.record.proofs.Refusals.{rows-known}
use Rattle.record.proofs.Tests.{first-passed}
use Rattle.survey.specs.Lists.{Listable}
use Rattle.suite.specs.Promises.{suite_tests}

pub bytes-listable : (rows bytes work : ℕ) → first_of (suite_tests rows bytes work) ≡ Ok tt
    → Listable rows (bytes / 4) work
unfolding suite_tests
bytes-listable rows bytes work good =
    let (no_rows, (no_length, (no_cells, (no-work, u)))) = first-passed (suite_tests rows bytes work) good in
    let (some, few) = rows-known rows no_rows in
    record {
      some = omega arith;
      few = few;
      fits = ltb-false 1048576 (bytes / 4) no_cells;
      space = ltb-false work (16 * (bytes / 4)) no-work;
    }
