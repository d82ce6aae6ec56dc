-- The check of an account, on levels in the work area.
--     Auditing s n rows      the levels of a grid of n cells stand in the first quarter
--     Behind s t n           t is s but for order and parents, and perhaps levels
--     PeakTold               whether a cell is a peak's
--     Judges                 what the check finds, exactly
-- It is stated over any way of touching. Assumes nothing.
use Rattle.std.specs.Prelude.{◌≡◌, Bool, Option, None, Some, List, ℕ, ◌*◌, ◌≤◌, ◌<◌, length}
use Rattle.relief.specs.Peaks.{Peak}
use Rattle.relief.specs.Accounts.{Account}
use Rattle.relief.specs.Inner.{Decides, cut}
use Rattle.words.specs.Words.{word_at}
use Rattle.area.specs.Area.{Area, level_in}

pub record Auditing (s : List ℕ) (n rows : ℕ) : Type 0 where
  pub area : Area s n
  pub rows_some : 0 < rows
  pub rows_few : rows ≤ 1024

pub record Behind (s t : List ℕ) (n : ℕ) : Type 0 where
  pub numbers : (j : ℕ) → 3 * n ≤ j → word_at t j ≡ word_at s j
  pub len : length t ≡ length s

module _ (touch : ℕ → ℕ → Type 0) where
  pub record PeakTold (s t : List ℕ) (n c : ℕ) (r : Bool) : Type 0 where
    pub told : Decides (Peak touch (cut n (level_in s)) c) r
    pub front : (j : ℕ) → j < n → word_at t j ≡ word_at s j
    pub behind : Behind s t n

  -- what a finding says of the peak at p: there is none, or there is, and whether this is an account of it
  abbrev pub Finds : (ℕ → ℕ) → ℕ → ℕ → List ℕ → List ℕ → Option Bool → Type 0
  Finds level p k path island None = Peak touch level p → ⊥
  Finds level p k path island (Some b) = Peak touch level p × Decides (Account touch level p k path island) b

  pub record Judges (s t : List ℕ) (n p k : ℕ) (path island : List ℕ) (r : Option Bool) : Type 0 where
    pub finds : Finds (cut n (level_in s)) p k path island r
    pub behind : Behind s t n
