-- A whole run, from Start to End: "if each call gets the run record last returned and no taken cell is changed".
--     Calls run cells batches     the calls so far gave the record `run`, took `cells` and handed out `batches`
--     HoldsList                   batches and rest hold just the list of the cells, each peak once
-- It is over the promises of the calls, and mentions no code. Assumes nothing.
use Rattle.std.specs.Prelude.{Ok, Err}
use Rattle.std.specs.Prelude.{◌≡◌, List, [], ◌∷◌, ◌++◌, ◌⊎◌, ◌↔◌, ℕ, suc, ◌≤◌, ◌<◌, ℤ, length, take, get_or}
use Rattle.relief.specs.Heights.{levels}
use Rattle.relief.specs.Peaks.{Entry, pass_cell_of, Member, Among, ListOf}
use Rattle.relief.specs.Runs.{Batch}
use Rattle.relief.specs.Plane.{Shape, touch_of, stage_of}
use Rattle.record.specs.declared.Peak.{Peak}
use Rattle.record.specs.declared.Refusal.{Refusal}
use Rattle.running.specs.declared.Run.{Run}
use Rattle.running.specs.Running.{held_of}
use Rattle.run.specs.Promises.{Starts, Columns, Ends}

-- Refused calls of Column and End, with whatever they were lent, may stand between accepted ones.
pub data Calls : Run → List ℤ → List (List Entry) → Type 0 where
  begun : {run : Run} (rows T : ℕ) → Starts rows T (Ok run) → Calls run [] []
  taken : {run run' : Run} {cells column grid grid' : List ℤ} {batches : List (List Entry)} {n : ℕ}
      {work work' : List ℕ} {table table' : List Peak}
      → Calls run cells batches → take (held_of run) grid ≡ cells
      → (c : Columns run column grid grid' work work' table table' run' (Ok n))
      → Calls run' (cells ++ column) (batches ++ (c.hands.entries ∷ []))
  refused : {run run' : Run} {cells column grid grid' : List ℤ} {batches : List (List Entry)}
      {work work' : List ℕ} {table table' : List Peak} {r : Refusal}
      → Calls run cells batches → Columns run column grid grid' work work' table table' run' (Err r)
      → Calls run' cells batches
  unended : {run run' : Run} {cells grid : List ℤ} {batches : List (List Entry)} {work work' : List ℕ}
      {table table' : List Peak} {r : Refusal}
      → Calls run cells batches → Ends run grid work work' table table' run' (Err r) → Calls run' cells batches

-- The j-th batch is what the call that took the j-th column closed. "The batches from start to end hold just the whole
-- run's list, each peak once."
pub record HoldsList (shape : Shape) (T : ℕ) (cells : List ℤ) (batches : List (List Entry)) (rest : List Entry)
    : Type 0 where
  pub closes : (j : ℕ) → j < length batches
      → Batch (touch_of shape) (stage_of shape j cells) (stage_of shape (suc j) cells) T (get_or batches j [])
  pub hold : (l : List Entry) → ListOf (touch_of shape) (levels cells) T l → (e : Entry)
      → Among e l ↔ (((j : ℕ) × (j < length batches) × Among e (get_or batches j [])) ⊎ Among e rest)
  -- Of a peak in a batch the list has the pass cell that was handed out, or an earlier one; of one in the rest, the
  -- same.
  pub pass : (l : List Entry) → ListOf (touch_of shape) (levels cells) T l → (j : ℕ) (d e : Entry) → j < length batches
      → Member d (get_or batches j []) → Member e l → d.cell ≡ e.cell → pass_cell_of e.key ≤ pass_cell_of d.key
  pub rest-pass : (l : List Entry) → ListOf (touch_of shape) (levels cells) T l → (d e : Entry)
      → Member d rest → Member e l → d.cell ≡ e.cell → pass_cell_of d.key ≡ pass_cell_of e.key
  pub once : (i j : ℕ) (e e' : Entry) → i < j → j < length batches → Member e (get_or batches i [])
      → Member e' (get_or batches j []) → e.cell ≡ e'.cell → ⊥
  pub last : (i : ℕ) (e e' : Entry) → i < length batches → Member e (get_or batches i []) → Member e' rest
      → e.cell ≡ e'.cell → ⊥
