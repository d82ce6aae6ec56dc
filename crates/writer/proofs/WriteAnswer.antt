-- The answer of `write`: what its tests come to, and what it tells. The one file that unfolds `write_tests`.
--     found-few                      how far the first unsound record may stand
--     few-records                    no more records than cells, where all are sound
--     found-first                    the index of it as a number
--     Gridded rows cells             a grid that passes them
--     grid-refused, unsound-refused, room-refused, written-bytes    the answer, by the first test that applies
--     Writable rows cells n u room   none of the tests applies
--     written-writable               so it is where the answer is a number of bytes
--     written-differ                 two answers that tell the same are one
-- Assumes nothing.
use Rattle.std.specs.Prelude.{Result, Ok, Err, Option, Some, None}
use mathlib.Core.Bool.{Bool, not}
use mathlib.Core.List.{List, [], ◌∷◌}
use mathlib.Core.Path.{◌≡◌, sym, ap}
use Prim.Native.Nat.{ℕ, ◌%◌, ◌≤◌, ◌<◌}
use native.Mathlib.Omega.{arith}
use borrow.Author.Tests.{lt-ltb, le-ltb, eq-eqb, ltb-false, eqb-true, not-false}
use lib.Dec.{eqb, ltb}
use lib.IntN.{ℤ}
use lib.ListN.{length, get_or, take, drop}
use Rattle.record.specs.declared.Peak.{Peak}
use Rattle.sound.specs.Sound.{FirstUnsound}
use Rattle.sound.specs.Inner.{FoundUnsound, index_of}
use Rattle.sound.proofs.Scans.{first-few}
use Rattle.record.specs.declared.Refusal.{Refusal}
use Rattle.record.specs.declared.Refusal.TheVariants.{Unsound, Room}
use Rattle.record.specs.Refusals.{Told, granted, told_of, first_of, told_by}
use Rattle.record.proofs.Refusals.{rows_right, rows-known, refusals-differ, told-refused}
use Rattle.record.proofs.Tests.{Passed, first-passed, first_good, first-before, first-at, granted-good}
use Rattle.record.proofs.Tests.{told-by}
use Rattle.layout.specs.Layout.{total_of}
use Rattle.layout.specs.Promises.{written_told, write_tests}
use Rattle.writer.specs.Inner.{grid_tests, Few}

-- ---- the tests of the grid

-- a grid that passed them
pub record Gridded (rows cells : ℕ) : Type 0 where
  pub some : rows ≡ 0 → ⊥
  pub few : rows ≤ 1024
  pub whole : cells % rows ≡ 0
  pub fit : cells ≤ 1048576

module _ (rows cells : ℕ) where
  pub grid-known : first_of (grid_tests rows cells) ≡ Ok tt → Gridded rows cells
  unfolding write_tests
  grid-known good =
      let (p1, (p2, (p3, t))) = first-passed (grid_tests rows cells) good in
      let (some, few) = rows-known rows p1 in
      record {
        some = some;
        few = few;
        whole = eqb-true (cells % rows) 0 (not-false (eqb (cells % rows) 0) p2);
        fit = ltb-false 1048576 cells p3;
      }

  -- ---- all of them

  module _ (n u room : ℕ) where
    abbrev tests : List (Bool × Refusal)
    tests = write_tests rows cells n u room

    pub grid-refused : {r : Refusal} (told : Told) → first_of (grid_tests rows cells) ≡ Err r
        → told_of r ≡ told_by tests told
    unfolding write_tests
    grid-refused told e = sym (told-by told (first-before (grid_tests rows cells) (drop 3 tests) e))

    module _ (g : Gridded rows cells) where
      grid-passed : Passed (grid_tests rows cells)
      unfolding write_tests
      grid-passed = (
        rows_right g.some g.few,
        (
          ap not (eq-eqb (cells % rows) 0 g.whole),
          (
            le-ltb 1048576 cells g.fit,
            tt,
          ),
        ),
      )

      pub unsound-refused : (told : Told) → u < n → told_of (Unsound u) ≡ told_by tests told
      unfolding write_tests
      unsound-refused told l =
          sym (told-by told (first-at (grid_tests rows cells) grid-passed (ltb u n) (Unsound u) (drop 4 tests)
          (lt-ltb u n l)))

      module _ (sound : n ≤ u) where
        pub room-refused : (told : Told) → room < total_of cells n → told_of (Room (total_of cells n)) ≡ told_by tests
            told
        unfolding write_tests
        room-refused told l =
            let (p1, (p2, (p3, t))) = grid-passed in
            sym (told-by told (first-at (take 4 tests) (p1, (p2, (p3, (le-ltb u n sound, tt))))
            (ltb room (total_of cells n)) (Room (total_of cells n)) [] (lt-ltb room (total_of cells n) l)))

        pub written-bytes : total_of cells n ≤ room
            → written_told (Ok (total_of cells n)) ≡ told_by tests (granted (total_of cells n ∷ []))
        unfolding write_tests
        written-bytes l =
            let (p1, (p2, (p3, t))) = grid-passed in
            sym (told-by _ (first_good tests
            (p1, (p2, (p3, (le-ltb u n sound, (le-ltb room (total_of cells n) l, tt)))))))

    -- what is known where a file is written
    pub record Writable : Type 0 where
      pub grid : Gridded rows cells
      pub sound : n ≤ u
      pub long : total_of cells n ≤ room

    pub written-writable : {b : ℕ} (told : Told) → written_told (Ok b) ≡ told_by tests told → Writable
    unfolding write_tests
    written-writable {b} told e =
        let (p1, (p2, (p3, (p4, (p5, t))))) = first-passed tests (granted-good tests told (b ∷ []) e) in
        record {
          grid = grid-known (first_good (grid_tests rows cells) (p1, (p2, (p3, tt))));
          sound = ltb-false u n p4;
          long = ltb-false room (total_of cells n) p5;
        }

-- ---- the first unsound record

pub found-few : (hs : List ℤ) (ps : List Peak) (r : Option ℕ) → FoundUnsound hs ps r → Few (length hs) (length ps) r
found-few hs ps None found = first-few found
found-few hs ps (Some i) found = (found.0, first-few found.1)

pub found-first : (hs : List ℤ) (ps : List Peak) (r : Option ℕ) → FoundUnsound hs ps r
    → FirstUnsound hs ps (index_of r (length ps))
found-first hs ps None found = found
found-first hs ps (Some i) found = found.1

-- where none is found there are no more records than cells
pub few-records : (cells n : ℕ) (r : Option ℕ) → Few cells n r → n ≤ index_of r n → n ≤ cells
few-records cells n None few sound = few
few-records cells n (Some i) few sound = absurd (omega arith)

-- ---- one answer

pub written-differ : (a b : Result ℕ Refusal) → written_told a ≡ written_told b → a ≡ b
written-differ (Ok n) (Ok m) e = ap (λ (t : Told). Ok (get_or t.values 0 0)) e
written-differ (Ok n) (Err r) e = told-refused r (n ∷ []) (sym e)
written-differ (Err r) (Ok n) e = told-refused r (n ∷ []) e
written-differ (Err r) (Err q) e = ap Err (refusals-differ r q e)
