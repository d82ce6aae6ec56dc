-- Demand 3 from the promises of the calls.
--     Told          what is known after the calls so far: as many columns as batches, each the batch of its column in
--                   the run of all cells taken
--     calls-told    and that it is known
--     run_holds     so with End the batches hold the list
-- Assumes nothing.
use Rattle.std.specs.Prelude.{Ok}
use mathlib.Core.Path.{◌≡◌, refl, sym, ◌∙◌, ap, subst, subst₂}
use mathlib.Core.List.{List, [], ◌∷◌, ◌++◌}
use Prim.Native.Nat.{ℕ, suc, ◌*◌, ◌≤◌, ◌<◌}
use native.Mathlib.Nat.{suc-mul, zero-mul, mul-le-mul_right, not-suc-le-zero}
use native.Mathlib.Numerals.{add-one}
use native.Mathlib.Omega.{arith}
use lib.IntN.{ℤ}
use lib.ListN.{length, take, get_or, length-append, get_or-append}
use lib.Seq.{take-append-le, take_all, get_or-append_seam}
use Rattle.relief.specs.Heights.{levels}
use Rattle.relief.specs.Peaks.{Entry, ListOf}
use Rattle.relief.specs.Runs.{Stage, Batch, Rest}
use Rattle.relief.specs.Plane.{Shape, touch_of, newest_of, stage_of}
use Rattle.relief.proofs.Tests.{split, below_suc}
use Rattle.theorems.proofs.Claims.{shape-touching, claims}
use Rattle.running.specs.declared.Run.{Run}
use Rattle.running.specs.Running.{shape_of, held_of, column_run}
use Rattle.run.specs.Promises.{Starts}
use Rattle.run.specs.WholeRun.{Calls, begun, taken, refused, unended}
use Rattle.run.specs.Claims.{RunHolds}
use Rattle.run.proofs.Outcomes.{start-begun, taken-passed}

-- ---- the calls so far

pub record Told (run : Run) (cells : List ℤ) (batches : List (List Entry)) : Type 0 where
  pub whole : length cells ≡ held_of run
  pub many : run.columns ≡ length batches
  pub closes : (j : ℕ) → j < length batches
      → Batch (touch_of (shape_of run)) (stage_of (shape_of run) j cells) (stage_of (shape_of run) (suc j) cells)
      run.threshold
      (get_or batches j [])

-- further cells leave an earlier stage as it is
stage-front : (shape : Shape) (j : ℕ) (cells more : List ℤ) → j * shape.rows ≤ length cells
    → stage_of shape j cells ≡ stage_of shape j (cells ++ more)
stage-front shape j cells more l = ap
    (λ (h : List ℤ). record {
      level = levels h;
      cells = j * shape.rows;
      newest = newest_of shape (j * shape.rows);
    })
    (sym (take-append-le (j * shape.rows) cells more l))

told_more : (run run' : Run) (cells column : List ℤ) (batches : List (List Entry)) (b : List Entry) (n : ℕ)
    → Told run cells batches → length column ≡ run.rows → run' ≡ column_run (Ok n) run
    → Batch (touch_of (shape_of run)) (stage_of (shape_of run) run.columns (cells ++ column))
    (stage_of (shape_of run) (suc run.columns) (cells ++ column)) run.threshold b
    → Told run' (cells ++ column) (batches ++ (b ∷ []))
told_more run run' cells column batches b n t e f h =
    subst (λ (r : Run). Told r (cells ++ column) (batches ++ (b ∷ []))) (sym f) (record {
      whole =
          let m = suc-mul run.columns run.rows in
          let w = t.whole in
          length-append cells column ∙ (let q = add-one run.columns in
          let p = ap (λ (x : ℕ). x * run.rows) q in omega arith);
      many = let w = t.many in let l = length-append batches (b ∷ []) in omega arith;
      closes = λ j l.
          let k = length-append batches (b ∷ []) in
          split (below_suc j (length batches) (omega arith)) (here j) (earlier j);
    })
  where
    here : (j : ℕ) → j ≡ length batches
        → Batch (touch_of (shape_of run)) (stage_of (shape_of run) j (cells ++ column))
        (stage_of (shape_of run) (suc j) (cells ++ column))
        run.threshold (get_or (batches ++ (b ∷ [])) j [])
    here j q =
        let c : j ≡ run.columns = q ∙ sym t.many in
        let g : get_or (batches ++ (b ∷ [])) j [] ≡ b =
        ap (λ (i : ℕ). get_or (batches ++ (b ∷ [])) i []) q ∙ get_or-append_seam batches b [] [] in
        subst₂ (λ (i : ℕ) (x : List Entry). Batch (touch_of (shape_of run))
        (stage_of (shape_of run) i (cells ++ column))
        (stage_of (shape_of run) (suc i) (cells ++ column)) run.threshold x) (sym c) (sym g) h

    earlier : (j : ℕ) → j < length batches
        → Batch (touch_of (shape_of run)) (stage_of (shape_of run) j (cells ++ column))
        (stage_of (shape_of run) (suc j) (cells ++ column))
        run.threshold (get_or (batches ++ (b ∷ [])) j [])
    earlier j l =
        let m = t.many in
        let w = t.whole in
        let a : j * run.rows ≤ run.columns * run.rows = mul-le-mul_right run.rows (omega arith) in
        let a' : suc j * run.rows ≤ run.columns * run.rows = mul-le-mul_right run.rows (omega arith) in
        let g : get_or (batches ++ (b ∷ [])) j [] ≡ get_or batches j [] = get_or-append batches (b ∷ []) [] j l in
        subst (λ (x : List Entry). Batch (touch_of (shape_of run)) (stage_of (shape_of run) j (cells ++ column))
        (stage_of (shape_of run) (suc j) (cells ++ column)) run.threshold x) (sym g)
        (subst₂ (λ (x y : Stage). Batch (touch_of (shape_of run)) x y run.threshold (get_or batches j []))
        (stage-front (shape_of run) j cells column (omega arith))
        (stage-front (shape_of run) (suc j) cells column (omega arith))
        (t.closes j l))

told-begun : (rows T : ℕ) (run : Run) → Starts rows T (Ok run) → Told run [] []
told-begun rows T run s =
    subst (λ (r : Run). Told r [] []) (sym (start-begun rows T run s)) (record {
      whole = sym (zero-mul rows);
      many = refl;
      closes = λ j l. absurd (not-suc-le-zero l);
    })

pub calls-told : {run : Run} {cells : List ℤ} {batches : List (List Entry)} → Calls run cells batches
    → Told run cells batches
calls-told (begun {run} rows T s) = told-begun rows T run s
calls-told (taken {run} {run'} {cells} {column} {batches = batches} {n} c e h) =
    told_more run run' cells column batches h.hands.entries n (calls-told c) (taken-passed h).whole h.run_after
    (subst (λ (x : List ℤ). Batch (touch_of (shape_of run)) (stage_of (shape_of run) run.columns (x ++ column))
    (stage_of (shape_of run) (suc run.columns) (x ++ column)) run.threshold h.hands.entries) e
    h.hands.right)
calls-told (refused {run} {run'} {cells} {batches = batches} c h) =
    subst (λ (r : Run). Told r cells batches) (sym h.run_after) (calls-told c)
calls-told (unended {run} {run'} {cells} {batches = batches} c h) =
    subst (λ (r : Run). Told r cells batches) (sym h.run_after) (calls-told c)

pub run_holds : RunHolds
run_holds run run' cells grid batches n work work' table table' c e h =
    let t = calls-told c in
    let r = claims.handing (shape-touching (shape_of run)) (λ j. stage_of (shape_of run) j cells) (length batches)
    run.threshold
    (λ j. get_or batches j []) h.hands.entries
    (record { grows = claims.run-grows (shape_of run) cells; batches = t.closes; ended = ended t }) in
    record {
      closes = t.closes;
      hold = λ l k. r.batches-hold l (listed t l k);
      pass = λ l k. r.batches-pass l (listed t l k);
      rest-pass = λ l k. r.rest-pass l (listed t l k);
      once = r.batches-once;
      last = r.rest-once;
    }
  where
    -- the cells of the last stage are all that were taken
    all : Told run cells batches → take (length batches * run.rows) cells ≡ cells
    all t = take_all (length batches * run.rows) cells
        (let w = t.whole in let m = ap (λ (x : ℕ). x * run.rows) t.many in omega arith)

    listed : Told run cells batches → (l : List Entry)
        → ListOf (touch_of (shape_of run)) (levels cells) run.threshold l
        → ListOf (touch_of (shape_of run)) (levels (take (length batches * run.rows) cells)) run.threshold l
    listed t l k = subst (λ (x : List ℤ). ListOf (touch_of (shape_of run)) (levels x) run.threshold l) (sym (all t)) k

    ended : Told run cells batches
        → Rest (touch_of (shape_of run)) (stage_of (shape_of run) (length batches) cells) run.threshold
        h.hands.entries
    ended t =
        subst (λ (s : Stage). Rest (touch_of (shape_of run)) s run.threshold h.hands.entries) same
        h.hands.right
      where
        same : stage_of (shape_of run) run.columns grid ≡ stage_of (shape_of run) (length batches) cells
        same =
            ap (λ (k : ℕ). stage_of (shape_of run) k grid) t.many
            ∙ ap (λ (x : List ℤ). record {
              level = levels x;
              cells = length batches * run.rows;
              newest = newest_of (shape_of run) (length batches * run.rows);
            })
            (ap (λ (k : ℕ). take (k * run.rows) grid) (sym t.many) ∙ e ∙ sym (all t))
