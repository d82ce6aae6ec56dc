-- A lent grid of heights: what its tests tell.
--     grid-good        what is known where none applies
--     grid-loading     then its levels may be loaded, ..
--     grid-loaded      .. and what is asked of the work area to go on from there is known
-- Assumes nothing.
use mathlib.Core.Path.{◌≡◌}
use mathlib.Core.List.{List}
use Prim.Native.Nat.{ℕ, ◌*◌, ◌≤◌, ◌<◌}
use native.Mathlib.Omega.{arith}
use lib.IntN.{ℤ}
use lib.ListN.{length}
use borrow.Author.Tests.{ltb-false}
use Rattle.record.specs.Refusals.{first_of}
use Rattle.record.proofs.Refusals.{rows-known}
use Rattle.std.specs.Prelude.{Ok}
use Rattle.record.proofs.Tests.{first-passed}
use Rattle.area.specs.Area.{Area}
use Rattle.heights.specs.Grid.{grid_tests}
use Rattle.heights.specs.Inner.{GoodGrid, Loading, Loaded}

-- ---- the tests

pub grid-good : (rows cells work : ℕ) → first_of (grid_tests rows cells work) ≡ Ok tt → GoodGrid rows cells work
unfolding grid_tests
grid-good rows cells work good =
    let (no_rows, (no_length, (no_cells, (no-work, u)))) = first-passed (grid_tests rows cells work) good in
    let (some, few) = rows-known rows no_rows in
    record {
      good = good;
      some = omega arith;
      few = few;
      fits = ltb-false 1048576 cells no_cells;
      space = ltb-false work (16 * cells) no-work;
    }

-- ---- loading

pub grid-loading : {rows cells work : ℕ} → GoodGrid rows cells work → {s : List ℕ} {heights : List ℤ}
    → length s ≡ work → length heights ≡ cells → Loading s heights cells
grid-loading g e f = record {
  area = record { few = g.fits; room = let h = g.space in omega arith };
  all = omega arith;
}

pub grid-loaded : {rows cells work : ℕ} → GoodGrid rows cells work → {s t : List ℕ} {heights : List ℤ} {r : ℕ}
    → length s ≡ work → Loaded s t heights cells → r ≡ rows → Area t cells × (0 < r) × (r ≤ 1024)
grid-loaded g e h q =
    let some = g.some in
    let few = g.few in
    (record { few = g.fits; room = let i = h.len in let j = g.space in omega arith }, omega arith, omega arith)
