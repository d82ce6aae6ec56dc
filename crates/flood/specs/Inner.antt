-- The steps of a flood: inner contracts. A cell is open while the parents' quarter holds n for it, and reached where it
-- holds less.
--     Sieved s t n low c       the first c cells are open where they are at or above `low`, and else shut
--     Reaching, Reached        what putting a cell into the queue asks and does
--     Spreading                the cells around the first `head` of `tail` cells in the queue are reached, and of those
--                              around the next one the ones that were looked at (`Seen`)
--     Onward s t n tail        t goes on from s: the first `tail` cells of the queue, levels and passes are the same
--     Looking, Looked          before and after the cells around one cell are reached
-- Assumes nothing.
use Rattle.std.specs.Prelude.{◌≡◌, cond, List, ◌⊎◌, ◌↔◌, ℕ, suc, ◌+◌, ◌*◌, ◌≤◌, ◌<◌, ltb, length}
use Rattle.words.specs.Words.{word_at, Stored}
use Rattle.area.specs.Area.{Area, level_in, order_in, parent_in}

pub record Sieved (s t : List ℕ) (n low c : ℕ) : Type 0 where
  pub gates : (d : ℕ) → d < c → parent_in t n d ≡ cond (ltb (level_in s d) low) (n + 1) n
  pub other : (j : ℕ) → (2 * n ≤ j → j < 2 * n + c → ⊥) → word_at t j ≡ word_at s j
  pub len : length t ≡ length s

pub record Reaching (s : List ℕ) (n head tail i : ℕ) : Type 0 where
  pub area : Area s n
  pub from : head < n
  pub room : tail ≤ n
  pub which : i < 8

pub data Reached (s t : List ℕ) (n y head tail r : ℕ) : Type 0 where
  left : (n ≤ y) ⊎ (parent_in s n y ≡ n → ⊥) → r ≡ tail → t ≡ s → Reached s t n y head tail r
  put : y < n → parent_in s n y ≡ n → (m : List ℕ) → Stored s m (2 * n + y) head → Stored m t (n + tail) y
      → r ≡ tail + 1 → Reached s t n y head tail r

pub record Spreading (touch : ℕ → ℕ → Type 0) (n : ℕ) (queue from : ℕ → ℕ) (head tail : ℕ) (Seen : ℕ → Type 0)
    : Type 0 where
  pub some : 0 < tail
  pub order : head ≤ tail
  pub queued : (i : ℕ) → i < tail → (queue i < n) × (from (queue i) < n)
  pub once : (i j : ℕ) → i < tail → j < tail → queue i ≡ queue j → i ≡ j
  pub found : (c : ℕ) → c < n → from c < n → (i : ℕ) × (i < tail) × (queue i ≡ c)
  pub came : (i : ℕ) → 0 < i → i < tail → (from (queue i) < i) × touch (queue (from (queue i))) (queue i)
  pub late : (i : ℕ) → i < tail → from (queue i) ≤ head
  pub sorted : (i j : ℕ) → i ≤ j → j < tail → from (queue i) ≤ from (queue j)
  pub soon : (i j : ℕ) → i < head → j < tail → touch (queue i) (queue j) → from (queue j) ≤ i
  pub rising : (i j : ℕ) → 0 < i → i < j → j < tail → from (queue i) ≡ from (queue j) → queue i < queue j
  pub done : (i c : ℕ) → i < head → c < n → from c ≤ n → touch (queue i) c → from c < n
  -- around the cell at the place `head`
  pub seen : (c : ℕ) → c < n → Seen c → from c ≤ n → from c < n
  pub fresh : (i : ℕ) → 0 < i → i < tail → from (queue i) ≡ head → Seen (queue i)

pub record Onward (s t : List ℕ) (n tail : ℕ) : Type 0 where
  pub taken : (i : ℕ) → i < tail → order_in t n i ≡ order_in s n i
  pub gates : (c : ℕ) → c < n → (parent_in t n c ≤ n) ↔ (parent_in s n c ≤ n)
  pub front : (j : ℕ) → j < n → word_at t j ≡ word_at s j
  pub back : (j : ℕ) → 3 * n ≤ j → word_at t j ≡ word_at s j
  pub len : length t ≡ length s

module _ (touch : ℕ → ℕ → Type 0) where
  pub record Looking (s : List ℕ) (n head tail : ℕ) : Type 0 where
    pub area : Area s n
    pub more : head < tail
    pub spreading : Spreading touch n (order_in s n) (parent_in s n) head tail (λ (c : ℕ). ⊥)

  pub record Looked (s t : List ℕ) (n head tail r : ℕ) : Type 0 where
    pub grows : tail ≤ r
    pub onward : Onward s t n tail
    pub spreading : Spreading touch n (order_in t n) (parent_in t n) (suc head) r (λ (c : ℕ). ⊥)
