-- What is known where no test of the outline applies. Assumes nothing.
use Rattle.std.specs.Prelude.{Ok}
use mathlib.Core.Path.{◌≡◌}
use Prim.Native.Nat.{ℕ, ◌*◌}
use native.Mathlib.Omega.{arith}
use lib.Dec.{eqb, ltb}
use borrow.Author.Tests.{eqb-false, ltb-false}
use Rattle.relief.proofs.Tests.{or-false}
use Rattle.record.specs.Refusals.{first_of}
use Rattle.record.proofs.Refusals.{rows-known}
use Rattle.record.proofs.Tests.{first-passed}
use Rattle.running.specs.declared.Run.{Run}
use Rattle.running.specs.Running.{held_of}
use Rattle.outline.specs.Promises.{outline_tests}
use Rattle.outline.specs.Inner.{GoodOutline}

pub outline-passed : (run : Run) (grid levels work : ℕ) → first_of (outline_tests run grid levels work) ≡ Ok tt
    → GoodOutline run grid levels work
unfolding outline_tests
outline-passed run grid levels work good =
    let (a, (b, (c, (d, (e, u))))) = first-passed (outline_tests run grid levels work) good in
    let (some, few) = rows-known run.rows a in
    let (x, y) = or-false (ltb grid (held_of run)) (ltb 1048576 (held_of run)) b in
    let (p, q) = or-false (eqb levels 0) (ltb 64 levels) d in
    let one = eqb-false levels 0 p in
    record {
      good = good;
      linkable = record {
        some = omega arith;
        few = few;
        cells = ltb-false 1048576 (held_of run) y;
        fits = ltb-false grid (held_of run) x;
        space = ltb-false work (16 * held_of run) e;
      };
      one = omega arith;
      deep = ltb-false 64 levels q;
    }
