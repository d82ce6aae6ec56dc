-- A flood: the cells that a start reaches through a set of cells, in a queue, in the order in which they are reached.
--     Spread touch In start queue from count   the queue holds what the start reaches; `from` tells of a cell the place
--                                              in the queue of the cell that it was reached from
--     Trail queue from j l                     the cells from the start to the one at the place j, as they were reached
--     Flooding, Flooded                        before and after a flood in the work area
--     reached_in t n c                         the flood has reached the cell c, by a test
--     Queue s n count                          so many cells stand in the order quarter
--     BestPlace s n count r                    no cell of the queue is better than that at the place r
--     BestCell s n c r                         no reached cell below c is better than the reached cell r
-- It is stated over any way of touching, and knows no peaks. Assumes nothing.
use Rattle.std.specs.Prelude.{◌≡◌, Bool, List, [], ◌∷◌, ◌++◌, ℕ, ◌*◌, ◌≤◌, ◌<◌, ltb, length}
use Rattle.relief.specs.Inner.{cut, Better}
use Rattle.words.specs.Words.{word_at}
use Rattle.area.specs.Area.{Area, level_in, order_in, parent_in}

-- The cells of `In` that touch a cell of the queue are put behind it, the earlier ones first, when its turn comes. So
-- each is reached from the first cell of the queue that it touches, and what is reached from one cell stands together,
-- in rising order. The start is reached from itself.
pub record Spread (touch : ℕ → ℕ → Type 0) (In : ℕ → Type 0) (start : ℕ) (queue from : ℕ → ℕ) (count : ℕ) : Type 0 where
  pub some : 0 < count
  pub first : queue 0 ≡ start
  pub inside : (i : ℕ) → i < count → In (queue i)
  pub once : (i j : ℕ) → i < count → j < count → queue i ≡ queue j → i ≡ j
  pub all : (i c : ℕ) → i < count → touch (queue i) c → In c → (j : ℕ) × (j < count) × (queue j ≡ c)
  pub came : (i : ℕ) → 0 < i → i < count → (from (queue i) < i) × touch (queue (from (queue i))) (queue i)
  pub sorted : (i j : ℕ) → i ≤ j → j < count → from (queue i) ≤ from (queue j)
  pub soon : (i j : ℕ) → i < count → j < count → touch (queue i) (queue j) → from (queue j) ≤ i
  pub rising : (i j : ℕ) → 0 < i → i < j → j < count → from (queue i) ≡ from (queue j) → queue i < queue j

pub data Trail (queue from : ℕ → ℕ) : ℕ → List ℕ → Type 0 where
  root : Trail queue from 0 (queue 0 ∷ [])
  next : {j : ℕ} {l : List ℕ} → 0 < j → Trail queue from (from (queue j)) l → Trail queue from j (l ++ (queue j ∷ []))

-- A blank cell has level 0, and is never reached.
pub record Flooding (s : List ℕ) (n start low : ℕ) : Type 0 where
  pub area : Area s n
  pub cell : start < n
  pub land : 0 < low
  pub high : low ≤ level_in s start

unfoldable pub reached_in : List ℕ → ℕ → ℕ → Bool
reached_in t n c = ltb (parent_in t n c) n

-- Levels and passes stay.
pub record Flooded (touch : ℕ → ℕ → Type 0) (s t : List ℕ) (n start low count : ℕ) : Type 0 where
  pub spread : Spread touch (λ c. low ≤ cut n (level_in s) c) start (order_in t n) (parent_in t n) count
  pub few : count ≤ n
  pub inside : (i : ℕ) → i < count → (order_in t n i < n) × (parent_in t n (order_in t n i) < n)
  pub found : (c : ℕ) → c < n → parent_in t n c < n → (i : ℕ) × (i < count) × (order_in t n i ≡ c)
  pub front : (j : ℕ) → j < n → word_at t j ≡ word_at s j
  pub back : (j : ℕ) → 3 * n ≤ j → word_at t j ≡ word_at s j
  pub len : length t ≡ length s

pub record Queue (s : List ℕ) (n count : ℕ) : Type 0 where
  pub area : Area s n
  pub some : 0 < count
  pub few : count ≤ n
  pub cells : (i : ℕ) → i < count → order_in s n i < n

pub record BestPlace (s : List ℕ) (n count r : ℕ) : Type 0 where
  pub place : r < count
  pub best : (i : ℕ) → i < count → Better (level_in s) (order_in s n i) (order_in s n r) → ⊥

-- r is reached, and of the cells below c that are reached none is better
pub record BestCell (s : List ℕ) (n c r : ℕ) : Type 0 where
  pub cell : r < n
  pub reached : parent_in s n r < n
  pub best : (d : ℕ) → d < c → parent_in s n d < n → Better (level_in s) d r → ⊥
