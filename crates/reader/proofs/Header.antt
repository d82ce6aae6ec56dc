-- The header of a file: what its tests come to, and what is known of a file that passed them. With `ReadAnswer` the one
-- file that unfolds `read_tests` and `miscounted`.
--     RightCounts f cells n          the header counts and offsets are as computed
--     counted-right, counted-not     so they are where `miscounted` says no, and only there
--     test-told                      what a test tells that stands last
--     header-early, header-counts, header-last    the tests of the header, one after the other
--     grid-known, Whole f, header-whole       what is known of a file that passed the first
-- Assumes nothing.
use Rattle.std.specs.Prelude.{Result, Ok, Err, MatchResult}
use mathlib.Core.Bool.{Bool, true, false, not, cond}
use mathlib.Core.List.{List}
use mathlib.Core.Path.{◌≡◌, sym, ap, ◌∙◌}
use Prim.Native.Nat.{ℕ, ◌+◌, ◌*◌, ◌≤◌}
use borrow.Author.Tests.{le-ltb, eq-eqb, ltb-false, eqb-true, not-false}
use lib.Dec.{eqb, ltb}
use lib.ListN.{length, take, drop}
use Rattle.relief.proofs.Tests.{or-false}
use Rattle.record.specs.declared.Refusal.{Refusal}
use Rattle.record.specs.declared.Refusal.TheVariants.{FileLength, FileCounts}
use Rattle.record.specs.Refusals.{first_of}
use Rattle.record.proofs.Refusals.{rows-known}
use Rattle.record.proofs.Tests.{first-passed, first_good, first-end, first-before, first-at}
use Rattle.words.specs.Words.{word_at}
use Rattle.layout.specs.Layout.{total_of, rows_in, peaks_in, cells_in}
use Rattle.layout.specs.Promises.{miscounted, read_tests}
use Rattle.reader.specs.Inner.{file_grid_tests, header_tests}

-- ---- the header

pub record RightCounts (f : List ℕ) (cells n : ℕ) : Type 0 where
  pub few : n ≤ cells
  pub heights : word_at f 3 ≡ 24
  pub records : word_at f 4 ≡ 24 + 4 * cells
  pub total : word_at f 5 ≡ total_of cells n

pub counted-right : (f : List ℕ) (cells n : ℕ) → RightCounts f cells n → miscounted f cells n ≡ false
unfolding miscounted
counted-right f cells n c =
    rw (
      le-ltb cells n c.few,
      eq-eqb (word_at f 3) 24 c.heights,
      eq-eqb (word_at f 4) (24 + 4 * cells) c.records,
      eq-eqb (word_at f 5) (total_of cells n) c.total,
    )

pub counted-not : (f : List ℕ) (cells n : ℕ) → miscounted f cells n ≡ false → RightCounts f cells n
unfolding miscounted
counted-not f cells n e =
    let p3 = or-false _ (not (eqb (word_at f 5) (total_of cells n))) e in
    let p2 = or-false _ (not (eqb (word_at f 4) (24 + 4 * cells))) p3.0 in
    let p1 = or-false (ltb cells n) (not (eqb (word_at f 3) 24)) p2.0 in
    record {
      few = ltb-false cells n p1.0;
      heights = eqb-true (word_at f 3) 24 (not-false (eqb (word_at f 3) 24) p1.1);
      records = eqb-true (word_at f 4) (24 + 4 * cells) (not-false (eqb (word_at f 4) (24 + 4 * cells)) p2.1);
      total = eqb-true (word_at f 5) (total_of cells n) (not-false (eqb (word_at f 5) (total_of cells n)) p3.1);
    }

-- ---- the tests of the header

-- the last test decides what those before it let through
pub test-told : (b : Bool) (r : Refusal) (c : Result (Unit {0}) Refusal)
    → MatchResult c (λ _. b ≡ false) (λ q. (q ≡ r) × (b ≡ true)) → c ≡ cond b (Err r) (Ok tt)
test-told b r (Ok _) e = ap (λ (x : Bool). cond x (Err r) (Ok tt)) (sym e)
test-told b r (Err q) e = ap Err e.0 ∙ ap (λ (x : Bool). cond x (Err r) (Ok tt)) (sym e.1)

-- a file that passed them
pub record Whole (f : List ℕ) : Type 0 where
  pub long : 24 ≤ length f
  pub some : rows_in f ≡ 0 → ⊥
  pub few : rows_in f ≤ 1024
  pub fit : cells_in f ≤ 1048576
  pub counted : RightCounts f (cells_in f) (peaks_in f)
  pub total : length f ≡ word_at f 5

module _ (f : List ℕ) where
  pub grid-known : first_of (file_grid_tests f) ≡ Ok tt → (24 ≤ length f) × (cells_in f ≤ 1048576)
  unfolding read_tests
  grid-known good =
      let (long, (rows, (fit, t))) = first-passed (file_grid_tests f) good in
      (ltb-false (length f) 24 long, ltb-false 1048576 (cells_in f) fit)

  -- a test of the grid refuses, and behind them the other two decide
  pub header-early : {r : Refusal} → first_of (file_grid_tests f) ≡ Err r → Err r ≡ first_of (header_tests f)
  unfolding read_tests
  header-early e = sym (first-before (file_grid_tests f) (drop 3 (header_tests f)) e)

  module _ (good : first_of (file_grid_tests f) ≡ Ok tt) where
    pub header-counts : miscounted f (cells_in f) (peaks_in f) ≡ true → Err FileCounts ≡ first_of (header_tests f)
    unfolding read_tests
    header-counts e =
        sym (first-at (file_grid_tests f) (first-passed (file_grid_tests f) good) _ FileCounts (drop 4 (header_tests f))
        e)

    pub header-last : miscounted f (cells_in f) (peaks_in f) ≡ false → {c : Result (Unit {0}) Refusal}
        → c ≡ cond (not (eqb (length f) (word_at f 5))) (Err FileLength) (Ok tt) → c ≡ first_of (header_tests f)
    unfolding read_tests
    header-last e q =
        let (p1, (p2, (p3, t))) = first-passed (file_grid_tests f) good in
        q ∙ sym (first-end (take 4 (header_tests f)) (not (eqb (length f) (word_at f 5))) FileLength
        (first_good (take 4 (header_tests f)) (p1, (p2, (p3, (e, tt))))))

  pub header-whole : first_of (header_tests f) ≡ Ok tt → Whole f
  unfolding read_tests
  header-whole good =
      let (p1, (p2, (p3, (p4, (p5, t))))) = first-passed (header_tests f) good in
      let (some, few) = rows-known (rows_in f) p2 in
      record {
        long = ltb-false (length f) 24 p1;
        some = some;
        few = few;
        fit = ltb-false 1048576 (cells_in f) p3;
        counted = counted-not f (cells_in f) (peaks_in f) p4;
        total = eqb-true (length f) (word_at f 5) (not-false (eqb (length f) (word_at f 5)) p5);
      }
