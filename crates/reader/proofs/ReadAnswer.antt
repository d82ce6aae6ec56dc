-- The answer of `read`: what its tests come to, and what it tells. With `Header` the one file that unfolds
-- `read_tests` and `miscounted`.
--     read-differ                    two answers that tell the same are one
--     header_refused                 where one of them applies, that is the answer whatever the records are
--     Readable f heights table u     none of the tests applies
--     found-one, found-none          the search for an unsound record, in what the header tells of
--     unsound-refused, room-refused, table-refused    the answer where one of the last three does
--     readable-good, run-read        where none does the answer is the file's run ..
--     read-readable                  .. and the other way round,
--     read-rows, read-columns, read-peaks, read-cells    and the run is the file's,
--     read-fits, read-room, read-records                 which has its records
--     answers-unique                 a file has one answer
-- Assumes nothing.
use Rattle.std.specs.Prelude.{Result, Ok, Err, Option, Some, None}
use mathlib.Core.Bool.{Bool, not}
use mathlib.Core.List.{List, [], ◌∷◌}
use mathlib.Core.Path.{◌≡◌, sym, ap, ap₂, ◌∙◌, subst}
use native.Mathlib.Omega.{arith}
use Prim.Native.Nat.{ℕ, ◌+◌, ◌*◌, ◌≤◌, ◌<◌}
use borrow.Author.Tests.{lt-ltb, le-ltb, eq-eqb, ltb-false}
use lib.Dec.{ltb}
use lib.ListN.{length, get_or, take, drop}
use Rattle.record.specs.declared.Refusal.{Refusal}
use Rattle.record.specs.declared.Refusal.TheVariants.{Table, Unsound, Room}
use Rattle.record.specs.Refusals.{Told, granted, first_of, told_by}
use Rattle.record.proofs.Refusals.{rows_right, refusals-differ, told-refused}
use Rattle.record.proofs.Tests.{Passed, first-passed, first_good, first-before, first-at, granted-good}
use Rattle.record.proofs.Tests.{told-by}
use Rattle.words.specs.Words.{word_at}
use Rattle.sound.specs.Sound.{FirstUnsound}
use Rattle.sound.specs.Inner.{FoundUnsound}
use Rattle.sound.proofs.Scans.{first-total, first-unique}
use Rattle.layout.specs.declared.ReadBack.{ReadBack}
use Rattle.layout.specs.Layout.{rows_in, columns_in, peaks_in, cells_in, heights_from, heights_in}
use Rattle.layout.specs.Layout.{peaks_from, records_from}
use Rattle.layout.proofs.Rows.{peaks-length}
use Rattle.layout.specs.Promises.{run_of, read_told, read_tests, ReadAnswers}
use Rattle.reader.specs.Inner.{header_tests}
use Rattle.reader.proofs.Header.{counted-right, Whole, header-whole}

-- ---- one answer

pub read-differ : (a b : Result ReadBack Refusal) → read_told a ≡ read_told b → a ≡ b
read-differ (Ok a) (Ok b) e =
    ap (λ (t : Told). run_of (get_or t.values 0 0) (get_or t.values 1 0) (get_or t.values 2 0)) e
read-differ (Ok a) (Err q) e = told-refused q (a.rows ∷ a.columns ∷ a.peaks ∷ []) (sym e)
read-differ (Err q) (Ok a) e = told-refused q (a.rows ∷ a.columns ∷ a.peaks ∷ []) e
read-differ (Err q) (Err q') e = ap Err (refusals-differ q q' e)

-- ---- the header refuses

module _ (f : List ℕ) where
  -- Before the records are looked at.
  pub header_refused : (heights table : ℕ) {r : Refusal} → first_of (header_tests f) ≡ Err r
      → ReadAnswers f heights table (Err r)
  unfolding read_tests
  header_refused heights table e =
      let t = first-total (heights_in f (cells_in f)) (records_from f (cells_in f) (peaks_in f)) in
      record {
        unsound = t.0;
        first = t.1;
        answered =
            sym (told-by _ (first-before (header_tests f) (drop 5 (read_tests f heights table t.0)) e));
      }

-- ---- the search for an unsound record, in the grid of so many cells and n records that the header tells of

module _ (f : List ℕ) {cells n : ℕ} (ec : cells ≡ cells_in f) (en : n ≡ peaks_in f) where
  abbrev Found : Option ℕ → Type 0
  Found = FoundUnsound (heights_from f 6 cells) (peaks_from f (6 + cells) n)

  in_file : (i : ℕ) → FirstUnsound (heights_from f 6 cells) (peaks_from f (6 + cells) n) i
      → FirstUnsound (heights_in f (cells_in f)) (records_from f (cells_in f) (peaks_in f)) i
  in_file i first =
      subst (λ (k : ℕ). FirstUnsound (heights_in f (cells_in f)) (records_from f (cells_in f) k) i) en
      (subst (λ (k : ℕ). FirstUnsound (heights_in f k) (records_from f k n) i) ec first)

  pub found-one : {i : ℕ} → Found (Some i)
      → (i < peaks_in f) × FirstUnsound (heights_in f (cells_in f)) (records_from f (cells_in f) (peaks_in f)) i
  found-one {i} found = (omega (arith, found.0, peaks-length f (6 + cells) n, en), in_file i found.1)

  pub found-none : (r : Option ℕ) → r ≡ None → Found r
      → FirstUnsound (heights_in f (cells_in f)) (records_from f (cells_in f) (peaks_in f)) (peaks_in f)
  found-none None e found =
      subst (FirstUnsound (heights_in f (cells_in f)) (records_from f (cells_in f) (peaks_in f)))
      (peaks-length f (6 + cells) n ∙ en) (in_file (length (peaks_from f (6 + cells) n)) found)
  found-none (Some i) e found = absurd (cc)

-- ---- all of them

pub record Readable (f : List ℕ) (heights table u : ℕ) : Type 0 where
  pub whole : Whole f
  pub sound : peaks_in f ≤ u
  pub room : cells_in f ≤ heights
  pub table-room : peaks_in f ≤ table

module _ (f : List ℕ) (heights table u : ℕ) where
  abbrev tests : List (Bool × Refusal)
  tests = read_tests f heights table u

  abbrev FirstIn : Type 0
  FirstIn = FirstUnsound (heights_in f (cells_in f)) (records_from f (cells_in f) (peaks_in f)) u

  -- a refusal is the answer where its test is the first that applies
  refused : FirstIn → {r : Refusal} → first_of tests ≡ Err r → ReadAnswers f heights table (Err r)
  refused first e = record { unsound = u; first = first; answered = sym (told-by _ e) }

  module _ (head : first_of (header_tests f) ≡ Ok tt) (first : FirstIn) where
    passed : Passed (header_tests f)
    passed = first-passed (header_tests f) head

    pub unsound-refused : u < peaks_in f → ReadAnswers f heights table (Err (Unsound u))
    unfolding read_tests
    unsound-refused l =
        refused first (first-at (header_tests f) passed (ltb u (peaks_in f)) (Unsound u) (drop 6 tests)
        (lt-ltb u (peaks_in f) l))

    module _ (sound : peaks_in f ≤ u) where
      pub room-refused : heights < cells_in f → ReadAnswers f heights table (Err (Room (cells_in f)))
      unfolding read_tests
      room-refused l =
          let (p1, (p2, (p3, (p4, (p5, t))))) = passed in
          refused first (first-at (take 6 tests) (p1, (p2, (p3, (p4, (p5, (le-ltb u (peaks_in f) sound, tt))))))
          (ltb heights (cells_in f)) (Room (cells_in f)) (drop 7 tests) (lt-ltb heights (cells_in f) l))

      module _ (room : cells_in f ≤ heights) where
        pub table-refused : table < peaks_in f → ReadAnswers f heights table (Err (Table (peaks_in f)))
        unfolding read_tests
        table-refused l =
            let (p1, (p2, (p3, (p4, (p5, t))))) = passed in
            refused first (first-at (take 7 tests)
            (p1, (p2, (p3, (p4, (p5, (le-ltb u (peaks_in f) sound, (le-ltb heights (cells_in f) room, tt)))))))
            (ltb table (peaks_in f)) (Table (peaks_in f)) [] (lt-ltb table (peaks_in f) l))

  pub readable-good : Readable f heights table u → first_of tests ≡ Ok tt
  unfolding read_tests
  readable-good r =
      let w = r.whole in
      first_good tests (
        le-ltb (length f) 24 w.long,
        (
          rows_right w.some w.few,
          (
            le-ltb 1048576 (cells_in f) w.fit,
            (
              counted-right f (cells_in f) (peaks_in f) w.counted,
              (
                ap not (eq-eqb (length f) (word_at f 5) w.total),
                (
                  le-ltb u (peaks_in f) r.sound,
                  (
                    le-ltb heights (cells_in f) r.room,
                    (le-ltb table (peaks_in f) r.table-room, tt),
                  ),
                ),
              ),
            ),
          ),
        ),
      )

  pub run-read : FirstIn → Readable f heights table u → {run : ReadBack} → run.rows ≡ rows_in f
      → run.columns ≡ columns_in f → run.peaks ≡ peaks_in f → ReadAnswers f heights table (Ok run)
  run-read first can er ec ep = record {
    unsound = u;
    first = first;
    answered = rw (er, ec, ep) (sym (told-by _ (readable-good can)));
  }

  module _ {run : ReadBack}
      (e : read_told (Ok run) ≡ told_by tests (granted (rows_in f ∷ columns_in f ∷ peaks_in f ∷ []))) where
    good : first_of tests ≡ Ok tt
    good = granted-good tests _ (run.rows ∷ run.columns ∷ run.peaks ∷ []) e

    pub read-readable : Readable f heights table u
    unfolding read_tests
    read-readable =
        let (p1, (p2, (p3, (p4, (p5, (p6, (p7, (p8, t)))))))) = first-passed tests good in
        record {
          whole = header-whole f (first_good (header_tests f) (p1, (p2, (p3, (p4, (p5, tt))))));
          sound = ltb-false u (peaks_in f) p6;
          room = ltb-false heights (cells_in f) p7;
          table-room = ltb-false table (peaks_in f) p8;
        }

    -- the run is the file's
    told : granted (run.rows ∷ run.columns ∷ run.peaks ∷ []) ≡ granted (rows_in f ∷ columns_in f ∷ peaks_in f ∷ [])
    told = e ∙ told-by _ good

    pub read-rows : run.rows ≡ rows_in f
    read-rows = ap (λ (t : Told). get_or t.values 0 0) told

    pub read-columns : run.columns ≡ columns_in f
    read-columns = ap (λ (t : Told). get_or t.values 1 0) told

    pub read-peaks : run.peaks ≡ peaks_in f
    read-peaks = ap (λ (t : Told). get_or t.values 2 0) told

    pub read-cells : run.rows * run.columns ≡ cells_in f
    read-cells = ap₂ ◌*◌ read-rows read-columns

    -- the records that the run tells of are in the file, are those of it, and have room
    module _ {cells n : ℕ} (ec : cells ≡ run.rows * run.columns) (en : n ≡ run.peaks) where
      pub read-fits : 4 * (6 + cells) + 16 * n ≤ length f
      read-fits =
          let r = read-readable in
          omega (arith, r.whole.total, r.whole.counted.total, ec, en, read-cells, read-peaks)

      pub read-room : n ≤ table
      read-room = let r = read-readable in omega (arith, r.table-room, en, read-peaks)

      pub read-records : peaks_from f (6 + cells) n ≡ records_from f (cells_in f) (peaks_in f)
      read-records =
          ap₂ (λ (k m : ℕ). peaks_from f (6 + k) m) (ec ∙ read-cells) (en ∙ read-peaks)

-- ---- one answer to a file

pub answers-unique : {f : List ℕ} {heights table : ℕ} {a b : Result ReadBack Refusal} → ReadAnswers f heights table a
    → ReadAnswers f heights table b → a ≡ b
answers-unique {f} {heights} {table} {a} {b} j k =
    read-differ a b
    (j.answered
    ∙ ap (λ (u : ℕ). told_by (read_tests f heights table u) (granted (rows_in f ∷ columns_in f ∷ peaks_in f ∷ [])))
    (first-unique j.first k.first)
    ∙ sym k.answered)
