-- The tests of the calls: what is known where none applies.
--     column-passed, end-passed          what is known where none applies
-- Assumes nothing.
use Rattle.std.specs.Prelude.{Ok}
use mathlib.Core.Path.{◌≡◌}
use Prim.Native.Nat.{ℕ, ◌+◌, ◌*◌}
use native.Mathlib.Omega.{arith}
use lib.Dec.{eqb, ltb}
use borrow.Author.Tests.{eqb-true, ltb-false, not-false}
use Rattle.relief.proofs.Tests.{or-false}
use Rattle.record.specs.Refusals.{first_of}
use Rattle.record.proofs.Refusals.{rows-known}
use Rattle.record.proofs.Tests.{first-passed}
use Rattle.running.specs.declared.Run.{Run}
use Rattle.running.specs.Running.{held_of, column_tests, end_tests}
use Rattle.running.specs.Inner.{GoodColumn, GoodEnd}

-- ---- none applies

pub column-passed : (run : Run) (offered grid work : ℕ) → first_of (column_tests run offered grid work) ≡ Ok tt
    → GoodColumn run offered grid work
unfolding column_tests
column-passed run offered grid work good =
    let (a, (b, (c, (d, (e, (f, (g, u))))))) = first-passed (column_tests run offered grid work) good in
    let (some, few) = rows-known run.rows a in
    record {
      good = good;
      some = omega arith;
      few = few;
      whole = eqb-true offered run.rows (not-false (eqb offered run.rows) d);
      cells = ltb-false 1048576 (held_of run + run.rows) e;
      fits = ltb-false grid (held_of run + run.rows) f;
      space = ltb-false work (16 * (held_of run + run.rows)) g;
    }

pub end-passed : (run : Run) (grid work : ℕ) → first_of (end_tests run grid work) ≡ Ok tt → GoodEnd run grid work
unfolding end_tests
end-passed run grid work good =
    let (a, (b, (c, (d, u)))) = first-passed (end_tests run grid work) good in
    let (some, few) = rows-known run.rows a in
    let (x, y) = or-false (ltb grid (held_of run)) (ltb 1048576 (held_of run)) b in
    record {
      good = good;
      some = omega arith;
      few = few;
      cells = ltb-false 1048576 (held_of run) y;
      fits = ltb-false grid (held_of run) x;
      space = ltb-false work (16 * held_of run) d;
    }
