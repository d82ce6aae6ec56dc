-- The island and the path of a peak, drawn into lent rows.
--     Drawing s n rows p k row         what it asks: levels stand in the first quarter, p is above k, the row has room
--     Filled cells row row' r          the row row' begins with those cells, r of them, and is as it was behind them
--     DrawnIsland, DrawnPath           what it does
-- It is stated over any way of touching. Assumes nothing.
use Rattle.std.specs.Prelude.{◌≡◌, List, [], ◌++◌, ℕ, ◌*◌, ◌≤◌, ◌<◌, length, drop}
use Rattle.relief.specs.Peaks.{Island}
use Rattle.relief.specs.Outline.{Region}
use Rattle.relief.specs.Accounts.{InOrder, FirstWay}
use Rattle.relief.specs.Inner.{cut, Better}
use Rattle.words.specs.Words.{word_at}
use Rattle.area.specs.Area.{Area, level_in}

pub record Drawing (s : List ℕ) (n rows p k : ℕ) (row : List ℕ) : Type 0 where
  pub area : Area s n
  pub rows_some : 0 < rows
  pub rows_few : rows ≤ 1024
  pub cell : p < n
  pub above : k < level_in s p
  pub room : n ≤ length row

pub record Filled (cells row row' : List ℕ) (r : ℕ) : Type 0 where
  pub count : r ≡ length cells
  pub cells_in : row' ≡ cells ++ drop (length cells) row

module _ (touch : ℕ → ℕ → Type 0) where
  pub record DrawnIsland (s t : List ℕ) (n p k : ℕ) (row row' : List ℕ) (r : ℕ) : Type 0 where
    pub cells : List ℕ
    pub order : InOrder (Island touch (cut n (level_in s)) p k) cells
    pub filled : Filled cells row row' r
    pub few : r ≤ n
    pub front : (j : ℕ) → j < n → word_at t j ≡ word_at s j
    pub back : (j : ℕ) → 3 * n ≤ j → word_at t j ≡ word_at s j
    pub len : length t ≡ length s

  -- q is the best cell that p reaches at or above k, and the path is the first way to it
  pub record PathTo (level : ℕ → ℕ) (p k q : ℕ) (cells : List ℕ) : Type 0 where
    pub inside : Region touch level p k q
    pub best : (d : ℕ) → Region touch level p k d → Better level d q → ⊥
    pub way : FirstWay touch (λ c. k ≤ level c) p q cells

  pub record DrawnPath (s t : List ℕ) (n p k : ℕ) (row row' : List ℕ) (r : ℕ) : Type 0 where
    pub cells : List ℕ
    pub none : k ≡ 0 → cells ≡ []
    pub leads : 0 < k → (q : ℕ) × PathTo (cut n (level_in s)) p k q cells
    pub filled : Filled cells row row' r
    pub few : r ≤ n
    pub back : (j : ℕ) → 3 * n ≤ j → word_at t j ≡ word_at s j
    pub len : length t ≡ length s
