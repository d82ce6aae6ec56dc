-- Column and End once their tests have passed, and where one refuses: the record, the grid and what stands in the work
-- area. `held` and `r` are the cells held and the rows as the code has them.
--     loaded-stage                  the levels loaded are those of a stage
--     column-made, end-made         the promise of a call that does its work
--     column-refused, end_refused   the promise of one that a test refuses
-- Assumes nothing.
use Rattle.std.specs.Prelude.{Result, Err}
use mathlib.Core.Path.{◌≡◌, refl, sym, ◌∙◌, ap, ap₂, subst, subst₂, fun_ext}
use mathlib.Core.List.{List, ◌++◌}
use Prim.Native.Nat.{ℕ, suc, ◌+◌, ◌*◌, ◌≤◌}
use native.Mathlib.Nat.{suc-mul}
use native.Mathlib.Omega.{arith}
use lib.IntN.{ℤ}
use lib.ListN.{length, take, length-take}
use lib.Seq.{paste, take-paste, take-length, take-take}
use Rattle.relief.specs.Heights.{levels}
use Rattle.relief.specs.Runs.{Stage, Batch, Rest, Closing, Remaining}
use Rattle.relief.specs.Plane.{plane_of, touch_of, newest_of, stage_of}
use Rattle.relief.specs.Inner.{cut}
use Rattle.relief.proofs.Tests.{split, le-or-lt}
use Rattle.relief.proofs.BatchSurvey.{survey_batch, survey_rest, survey-batch, survey-rest}
use Rattle.relief.proofs.Levels.{levels-end, levels-take, cut_below, cut-behind}
use Rattle.relief.proofs.Shapes.{touch?, stage-staged}
use Rattle.record.specs.declared.Refusal.{Refusal}
use Rattle.record.specs.Refusals.{first_of}
use Rattle.area.specs.Area.{level_in}
use Rattle.heights.specs.Inner.{Loaded}
use Rattle.table.specs.Inner.{room_answer}
use Rattle.table.proofs.Handed.{worked-late, flat-refused, flat-made}
use Rattle.survey.specs.Answers.{entries_in, Answered, stage_in}
use Rattle.survey.proofs.Records.{places-record, places-length}
use Rattle.running.specs.declared.Run.{Run}
use Rattle.running.specs.Running.{shape_of, held_of, column_tests, end_tests, column_run, end_run}
use Rattle.run.specs.Promises.{column_grid, heights_with}
use Rattle.running.specs.Inner.{GoodColumn, GoodEnd}
use Rattle.run.specs.Inner.{ColumnsFlat, EndsFlat}

-- ---- stages

-- the levels loaded, of the first m cells
pub loaded-stage : {s t : List ℕ} {heights : List ℤ} {n m : ℕ} → Loaded s t heights n → m ≤ n
    → cut m (level_in t) ≡ levels (take m heights)
loaded-stage {s} {t} {heights} {n} {m} h l = fun_ext λ c.
    split (le-or-lt m c)
    (λ k. cut-behind m (level_in t) c k
    ∙ sym (levels-end (take m heights) c (let e = length-take m heights in omega arith)))
    (λ k. cut_below m (level_in t) c k ∙ h.levels_in c (omega arith) ∙ sym (levels-take heights m c k))

-- the stage of a survey is that of the definition, where the cells are the same
stage_is : (rows columns : ℕ) (whole : List ℤ) {s t : List ℕ} {heights : List ℤ} {n : ℕ} → Loaded s t heights n
    → columns * rows ≤ n
    → take (columns * rows) heights ≡ take (columns * rows) whole
    → stage_in t (columns * rows) (plane_of rows) ≡ stage_of (plane_of rows) columns whole
stage_is rows columns whole h l e = λ i. record {
  level = (loaded-stage h l ∙ ap levels e) i;
  cells = columns * rows;
  newest = newest_of (plane_of rows) (columns * rows);
}

-- ---- a test refuses

module _ (run : Run) (column grid : List ℤ) (room : ℕ) (work : List ℕ) where
  abbrev whole : List ℤ
  whole = heights_with run column grid

  pub column-refused : {left : List ℕ} {r : Refusal}
      → first_of (column_tests run (length column) (length grid) (length work)) ≡ Err r → left ≡ work
      → ColumnsFlat run column grid grid work room left run (Err r)
  column-refused bad same = record {
    hands = flat-refused (column_tests run (length column) (length grid) (length work))
        (survey_batch (touch? (shape_of run)) (stage_of (shape_of run) run.columns whole)
        (stage_of (shape_of run) (suc run.columns) whole) run.threshold)
        (survey-batch (stage-staged (shape_of run) run.columns whole)
        (stage-staged (shape_of run) (suc run.columns) whole) run.threshold) bad same;
    run_after = refl;
    grid_after = ap (λ (c : Result (Unit {0}) Refusal). column_grid c run column grid) (sym bad);
  }

  pub end_refused : {left : List ℕ} {r : Refusal}
      → first_of (end_tests run (length grid) (length work)) ≡ Err r → left ≡ work
      → EndsFlat run grid work room left run (Err r)
  end_refused bad same = record {
    hands = flat-refused (end_tests run (length grid) (length work))
        (survey_rest (touch? (shape_of run)) (stage_of (shape_of run) run.columns grid) run.threshold)
        (survey-rest (stage-staged (shape_of run) run.columns grid) run.threshold) bad same;
    run_after = refl;
  }

-- ---- Column

-- the cells with the column
abbrev with : Run → ℕ
with run = held_of run + run.rows

module _ (run : Run) (column grid : List ℤ) (work : List ℕ)
    (g : GoodColumn run (length column) (length grid) (length work)) {held r : ℕ} (eh : held ≡ held_of run)
    (er : r ≡ run.rows) where
  module _ (room : ℕ) {left t : List ℕ} {copy : List ℤ} {k : ℕ} (ec : copy ≡ paste grid held column (length column))
      (loaded : Loaded work t copy (held + r))
      (made : Answered t left (held + r)
      (Closing (touch_of (plane_of r)) (stage_in t held (plane_of r)) (stage_in t (held + r) (plane_of r))
      run.threshold) k) where
    paste-is : copy ≡ paste grid (held_of run) column (length column)
    paste-is = ec ∙ ap (λ (x : ℕ). paste grid x column (length column)) eh

    -- the first cells of the grid with the column are the taken ones with the column
    copy-whole : take (with run) copy ≡ heights_with run column grid
    copy-whole =
        let l = g.fits in
        ap₂ (λ (m : ℕ) (c : List ℤ). take (held_of run + m) c) (sym g.whole) paste-is
        ∙ take-paste grid (held_of run) column (length column) (omega arith) (omega arith)
        ∙ ap (λ (c : List ℤ). take (held_of run) grid ++ c) (take-length column)

    copy-take : (m : ℕ) → m ≤ with run → take m copy ≡ take m (heights_with run column grid)
    copy-take m l = sym (take-take m (with run) copy l) ∙ ap (take m) copy-whole

    loaded-is : Loaded work t copy (with run)
    loaded-is = subst (Loaded work t copy) (ap₂ (λ (x y : ℕ). x + y) eh er) loaded

    stage-before : stage_in t (held_of run) (shape_of run)
        ≡ stage_of (shape_of run) run.columns (heights_with run column grid)
    stage-before = stage_is run.rows run.columns (heights_with run column grid) loaded-is (omega arith)
        (copy-take (held_of run) (omega arith))

    stage-after : stage_in t (with run) (shape_of run)
        ≡ stage_of (shape_of run) (suc run.columns) (heights_with run column grid)
    stage-after =
        let e = suc-mul run.columns run.rows in
        ap (λ (m : ℕ). stage_in t m (shape_of run)) (sym e)
        ∙ stage_is run.rows (suc run.columns) (heights_with run column grid) loaded-is (omega arith)
        (copy-take (suc run.columns * run.rows) (omega arith))

    made-is : Answered t left (with run) (Closing (touch_of (shape_of run)) (stage_in t (held_of run) (shape_of run))
        (stage_in t (with run) (shape_of run)) run.threshold) k
    made-is = rw (er, eh) at made

    pub column-made : {a : Result ℕ Refusal} {run' : Run} → a ≡ room_answer room k → run' ≡ column_run a run
        → ColumnsFlat run column grid copy work room left run' a
    column-made ea ra = record {
      hands = flat-made (column_tests run (length column) (length grid) (length work)) (entries_in left (with run) k)
          (subst₂ (λ (x y : Stage). Batch (touch_of (shape_of run)) x y run.threshold (entries_in left (with run) k))
          stage-before stage-after made-is.order) g.good
          (worked-late g.good (made-is.len ∙ loaded.len) (λ i l. made-is.beyond i l ∙ loaded-is.beyond i l))
          (sym (places-length _ k)) made-is.counted (places-record left (with run) k) ea;
      run_after = ra;
      grid_after = paste-is ∙ ap (λ (c : Result (Unit {0}) Refusal). column_grid c run column grid) (sym g.good);
    }

-- ---- End

module _ (run : Run) (grid : List ℤ) (work : List ℕ) (g : GoodEnd run (length grid) (length work)) {held : ℕ}
    (eh : held ≡ held_of run) where
  module _ (room : ℕ) {left t : List ℕ} {k r : ℕ} (er : r ≡ run.rows) (loaded : Loaded work t grid held)
      (made : Answered t left held
      (Remaining (touch_of (plane_of r)) (stage_in t held (plane_of r)) run.threshold) k) where
    loaded-held : Loaded work t grid (held_of run)
    loaded-held = subst (Loaded work t grid) eh loaded

    made_held : Answered t left (held_of run)
        (Remaining (touch_of (shape_of run)) (stage_in t (held_of run) (shape_of run)) run.threshold) k
    made_held = rw (er, eh) at made

    pub end-made : {a : Result ℕ Refusal} {run' : Run} → a ≡ room_answer room k → run' ≡ end_run a run
        → EndsFlat run grid work room left run' a
    end-made ea ra = record {
      hands = flat-made (end_tests run (length grid) (length work)) (entries_in left (held_of run) k)
          (subst (λ (x : Stage). Rest (touch_of (shape_of run)) x run.threshold (entries_in left (held_of run) k))
          (stage_is run.rows run.columns grid loaded-held (omega arith) refl) made_held.order) g.good
          (worked-late g.good (made_held.len ∙ loaded.len)
          (λ i l. made_held.beyond i l ∙ loaded-held.beyond i l))
          (sym (places-length _ k)) made_held.counted (places-record left (held_of run) k) ea;
      run_after = ra;
    }
