-- Each promise of a run allows one outcome, and what the calls leave of the taken cells.
--     start-unique, column-unique, end-unique    one outcome; column-flat-unique, end-flat-unique
--     start-begun                                the record that Start gives
--     taken-passed                               an accepted call passed its tests
--     column-takes, column-keeps                 the taken cells after an accepted column, and after a refused one
-- Assumes nothing.
use Rattle.record.specs.declared.Refusal.{Refusal}
use Rattle.std.specs.Prelude.{Result, Ok, Err}
use mathlib.Core.Path.{◌≡◌, refl, sym, ◌∙◌, ap, ap₂}
use mathlib.Core.Bool.{Bool, true, false, cond}
use mathlib.Core.List.{List, ◌++◌}
use Prim.Native.Nat.{ℕ, ◌+◌, ◌*◌, ◌≤◌}
use native.Mathlib.Nat.{suc-mul}
use native.Mathlib.Numerals.{add-one}
use native.Mathlib.Omega.{arith}
use lib.Dec.{eqb}
use lib.IntN.{ℤ}
use lib.ListN.{length, take, get_or, length-take}
use lib.Seq.{paste, take-paste, take-length, take-take, take-append-le}
use Rattle.relief.proofs.Lists.{order-unique}
use Rattle.record.specs.declared.Peak.{Peak}
use Rattle.record.specs.declared.Refusal.TheVariants.{Rows}
use Rattle.record.specs.Refusals.{Told, first_of, checked_told, bad_rows}
use Rattle.record.proofs.Refusals.{refusals-differ, told-refused}
use Rattle.table.proofs.Handed.{told-passed, hands-unique, flat-unique}
use Rattle.running.specs.declared.Run.{Run}
use Rattle.running.specs.Running.{held_of, started_run, column_tests, column_run}
use Rattle.run.specs.Promises.{started_told, Starts, column_grid}
use Rattle.running.specs.Running.{end_run}
use Rattle.run.specs.Promises.{Columns}
use Rattle.running.specs.Inner.{GoodColumn}
use Rattle.run.specs.Claims.{StartUnique, ColumnUnique, EndUnique, ColumnFlatUnique, EndFlatUnique, ColumnTakes}
use Rattle.run.specs.Claims.{ColumnKeeps}
use Rattle.running.proofs.Checks.{column-passed}

-- ---- Start

-- the run record that an answer tells, and whether it has ended
heard : Told → Run
heard t = record {
  rows = get_or t.values 0 0;
  columns = get_or t.values 1 0;
  threshold = get_or t.values 2 0;
  ended = eqb (get_or t.values 3 0) 1;
}

heard-told : (run : Run) → heard (started_told (Ok run)) ≡ run
unfolding heard
heard-told run = λ i. record {
  rows = run.rows;
  columns = run.columns;
  threshold = run.threshold;
  ended = bit run.ended i;
}
  where
    bit : (b : Bool) → eqb (cond b 1 0) 1 ≡ b
    bit true = refl
    bit false = refl

-- two answers of Start that tell the same are one
started-differ : (a b : Result Run Refusal) → started_told a ≡ started_told b → a ≡ b
started-differ (Ok r) (Ok q) e =
    ap Ok (sym (heard-told r) ∙ ap heard e ∙ heard-told q)
started-differ (Ok r) (Err x) e = told-refused x _ (sym e)
started-differ (Err x) (Ok r) e = told-refused x _ e
started-differ (Err x) (Err y) e = ap Err (refusals-differ x y e)

pub start-unique : StartUnique
start-unique rows T a b p q = started-differ a b (p ∙ sym q)

-- Start gives the record of zero columns, where it gives one.
pub start-begun : (rows T : ℕ) (run : Run) → Starts rows T (Ok run) → run ≡ started_run rows T
unfolding first_of
start-begun rows T run s = go (bad_rows rows) refl
  where
    go : (b : Bool) → bad_rows rows ≡ b → run ≡ started_run rows T
    go true e = told-refused Rows _ (sym (s ∙ ap (λ (x : Bool). checked_told (cond x (Err Rows) (Ok tt))
        (started_told (Ok (started_run rows T)))) e))
    go false e =
        let f = s ∙ ap (λ (x : Bool). checked_told (cond x (Err Rows) (Ok tt))
        (started_told (Ok (started_run rows T)))) e in
        sym (heard-told run) ∙ ap heard f ∙ heard-told (started_run rows T)

-- ---- Column and End

pub column-unique : ColumnUnique
column-unique run run' run'' column grid g h work w v table t u a b p q =
    let (e, f, k) = hands-unique order-unique p.hands q.hands in (
      e,
      p.run_after ∙ ap (λ (x : Result ℕ Refusal). column_run x run) e ∙ sym q.run_after,
      p.grid_after ∙ sym q.grid_after,
      f,
      k,
    )

pub end-unique : EndUnique
end-unique run run' run'' grid work w v table t u a b p q =
    let (e, f, k) = hands-unique order-unique p.hands q.hands in
    (e, p.run_after ∙ ap (λ (x : Result ℕ Refusal). end_run x run) e ∙ sym q.run_after, f, k)

pub column-flat-unique : ColumnFlatUnique
column-flat-unique run run' run'' column grid g h work w v room a b p q =
    let (e, f, k) = flat-unique order-unique p.hands q.hands in (
      e,
      p.run_after ∙ ap (λ (x : Result ℕ Refusal). column_run x run) e ∙ sym q.run_after,
      p.grid_after ∙ sym q.grid_after,
      f,
      k,
    )

pub end-flat-unique : EndFlatUnique
end-flat-unique run run' run'' grid work w v room a b p q =
    let (e, f, k) = flat-unique order-unique p.hands q.hands in
    (e, p.run_after ∙ ap (λ (x : Result ℕ Refusal). end_run x run) e ∙ sym q.run_after, f, k)

-- ---- the taken cells

pub taken-passed : {run run' : Run} {column grid grid' : List ℤ} {work work' : List ℕ} {table table' : List Peak}
    {n : ℕ}
    → Columns run column grid grid' work work' table table' run' (Ok n)
    → GoodColumn run (length column) (length grid) (length work)
taken-passed {run} {column = column} {grid} {work = work} {table = table} {n = n} c =
    column-passed run (length column) (length grid) (length work)
    (told-passed (column_tests run (length column) (length grid) (length work)) (length table)
    (length c.hands.entries) n c.hands.answered)

pub column-takes : ColumnTakes
column-takes run run' column grid grid' work work' table table' n c =
    let g = taken-passed c in
    let l = g.fits in
    let w = g.whole in
    let held : held_of run' ≡ held_of run + length column =
    ap held_of c.run_after ∙ (let e = suc-mul run.columns run.rows in
    let f = ap (λ (k : ℕ). k * run.rows) (add-one run.columns) in omega arith) in
    ap₂ take held (c.grid_after ∙ ap (λ (x : Result (Unit {0}) Refusal). column_grid x run column grid) g.good)
    ∙ take-paste grid (held_of run) column (length column) (omega arith) (omega arith)
    ∙ ap (λ (x : List ℤ). take (held_of run) grid ++ x) (take-length column)

-- a column pasted behind the taken cells leaves them
front_kept : (grid column : List ℤ) (held : ℕ) → held + length column ≤ length grid
    → take held (paste grid held column (length column)) ≡ take held grid
front_kept grid column held l =
    let cells = take held grid in
    let e = length-take held grid in
    sym (take-take held (held + length column) (paste grid held column (length column)) (omega arith))
    ∙ ap (take held) (take-paste grid held column (length column) (omega arith) (omega arith))
    ∙ take-append-le held cells (take (length column) column) (omega arith)
    ∙ take-take held held grid (omega arith)

pub column-keeps : ColumnKeeps
column-keeps run run' column grid grid' work work' table table' r c =
    (c.run_after, ap (take (held_of run)) c.grid_after ∙ go _ refl)
  where
    go : (x : Result (Unit {0}) Refusal) → first_of (column_tests run (length column) (length grid) (length work)) ≡ x
        → take (held_of run) (column_grid x run column grid) ≡ take (held_of run) grid
    go (Err q) e = refl
    go (Ok tt) e =
        let g = column-passed run (length column) (length grid) (length work) e in
        let l = g.fits in
        let w = g.whole in
        front_kept grid column (held_of run) (omega arith)
