-- What the functions for the crates above ask and promise.
--     Handable, HandedOut    an answer whose records can be laid into a table of bytes, and how
-- Assumes nothing.
use Rattle.record.specs.declared.Refusal.{Refusal}
use Rattle.std.specs.Prelude.{Result, Ok, Err, ◌≡◌, ℕ, ◌*◌, ◌≤◌, List, length, ℤ}
use Rattle.record.specs.Refusals.{handed_told}
use Rattle.table.specs.Inner.{Standing, records_in}
use Rattle.layout.specs.Promises.{signed_told, bytes_after}

-- An answer whose records stand in the work area and fit the table.
abbrev pub Handable : Result ℕ Refusal → List ℕ → ℕ → List ℕ → Type 0
Handable answer work cells table =
    (n : ℕ) → answer ≡ Ok n → Standing work cells n × (16 * n ≤ length table)

-- How many records the answer hands out.
abbrev pub count_in : Result ℕ Refusal → ℕ
count_in (Ok n) = n
count_in (Err r) = 0

pub record HandedOut (answer : Result ℕ Refusal) (work : List ℕ) (cells : ℕ) (table table' : List ℕ) (a : ℤ) :
    Type 0 where
  pub told : a ≡ signed_told (handed_told answer)
  pub filled : table' ≡ bytes_after a (records_in work cells (count_in answer)) table
