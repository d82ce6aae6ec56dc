-- The steps of the check: inner contracts.
--     Topped                 r is the best cell of a flood
--     Outranking             what is asked of two cells to tell whether one outranks the other
--     StepsAt, Stays         the path stays at or above k at its i-th number, and everywhere, each touching the next
--     Walking, Leading       what is asked of one step, and of the whole path
--     Crested                whether p is above k and the best cell that it reaches above k
--     Rowed                  whether path and island are those of an account, where the island is flooded
-- Assumes nothing.
use Rattle.std.specs.Prelude.{◌≡◌, Bool, true, List, [], ℕ, suc, ◌-◌, ◌≤◌, ◌<◌, length, get_or}
use Rattle.relief.specs.Outline.{Region}
use Rattle.relief.specs.Accounts.{LeadsOut}
use Rattle.relief.specs.Inner.{Decides, cut, Better, Best, row_below}
use Rattle.area.specs.Area.{Area, level_in}
use Rattle.flood.specs.Flood.{Flooded, reached_in}
use Rattle.audit.specs.Audit.{Behind}

pub record Outranking (s : List ℕ) (n p e : ℕ) : Type 0 where
  pub area : Area s n
  pub cell : p < n
  pub end : e < n
  pub land : 0 < level_in s e

pub record Walking (s : List ℕ) (n k : ℕ) (path : List ℕ) (i : ℕ) : Type 0 where
  pub area : Area s n
  pub land : 0 < k
  pub here : i < length path

pub record Leading (s : List ℕ) (n p k : ℕ) : Type 0 where
  pub area : Area s n
  pub cell : p < n
  pub land : 0 < k

module _ (touch : ℕ → ℕ → Type 0) where
  pub record Topped (s t : List ℕ) (n c low r : ℕ) : Type 0 where
    pub count : ℕ
    pub flooded : Flooded touch s t n c low count
    pub inside : Region touch (cut n (level_in s)) c low r
    pub cell : r < n
    pub best : (d : ℕ) → Region touch (cut n (level_in s)) c low d → Better (cut n (level_in s)) d r → ⊥

  abbrev pub StepsAt : (ℕ → ℕ) → ℕ → List ℕ → ℕ → Type 0
  StepsAt level k path i = (k ≤ level (get_or path i 0)) × (0 < i → touch (get_or path (i - 1) 0) (get_or path i 0))

  abbrev pub Stays : (ℕ → ℕ) → ℕ → List ℕ → Type 0
  Stays level k path = (i : ℕ) → i < length path → StepsAt level k path i

  pub record Crested (s t : List ℕ) (n p k : ℕ) (r : Bool) : Type 0 where
    pub told : Decides ((k < level_in s p) × Best touch (cut n (level_in s)) k p) r
    pub reached : r ≡ true → (count : ℕ) × Flooded touch s t n p (suc k) count
    pub front : (c : ℕ) → c < n → level_in t c ≡ level_in s c
    pub behind : Behind s t n

  pub record Rowed (s t : List ℕ) (n p k : ℕ) (path island : List ℕ) (r : Bool) : Type 0 where
    pub told : Decides ((island ≡ row_below (reached_in s n) n)
        × ((0 < k → LeadsOut touch (cut n (level_in s)) p k path)
        × (k ≡ 0 → path ≡ []))) r
    pub behind : Behind s t n
