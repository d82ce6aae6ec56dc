-- Accounts of a peak's key height: request (iii) of document 02, over any way of touching. A row is a list of cells.
-- Assumes nothing.
use mathlib.Core.{Path.◌≡◌, List.List, List.[], List.◌∷◌, Logic.◌⊎◌, Logic.◌↔◌}
use Rattle.std.specs.Prelude.{ℕ, suc, ◌≤◌, ◌<◌, length}
use Rattle.relief.specs.Peaks.{Way, alone, onward, Outranks, Island}
use Rattle.relief.specs.Outline.{Region, TopPeak}

-- The cells of a path, in its order.
unfoldable pub cells_of : {touch : ℕ → ℕ → Type 0} {In : ℕ → Type 0} {a b : ℕ} → Way touch In a b → List ℕ
cells_of (alone {a} i) = a ∷ []
cells_of (onward {a} i t w) = a ∷ cells_of w

-- The row holds the cell.
abbrev pub Holds : List ℕ → ℕ → Type 0
Holds [] c = ⊥
Holds (x ∷ l) c = (c ≡ x) ⊎ Holds l c

-- The row rises strictly, from b at the least.
abbrev pub Ascends : ℕ → List ℕ → Type 0
Ascends b [] = Unit {0}
Ascends b (x ∷ l) = (b ≤ x) × Ascends (suc x) l

-- The row holds just the cells of which P says yes, "in reading order".
pub record InOrder (P : ℕ → Type 0) (row : List ℕ) : Type 0 where
  pub rising : Ascends 0 row
  pub just : (c : ℕ) → Holds row c ↔ P c

module _ (touch : ℕ → ℕ → Type 0) (level : ℕ → ℕ) where
  -- "a path from the peak's cell to outranking ground that stays at or above it"
  pub record LeadsOut (p k : ℕ) (path : List ℕ) : Type 0 where
    pub ground : ℕ
    pub outranks : Outranks touch level p ground
    pub way : Region touch level p k ground
    pub cells : cells_of way ≡ path

  -- "an account: the key height, a path [..], and the island in reading order, touched by nothing higher than the key
  -- height; nothing on it outranks". k is the key height, or 0 for none.
  pub record Account (p k : ℕ) (path island : List ℕ) : Type 0 where
    pub leads : 0 < k → LeadsOut p k path
    -- "Without one the path is empty."
    pub none : k ≡ 0 → path ≡ []
    pub isle : InOrder (Island touch level p k) island
    pub shore : (a b : ℕ) → Holds island a → touch a b → (Holds island b → ⊥) → level b ≤ k
    pub free : (c : ℕ) → Holds island c → Outranks touch level p c → ⊥

-- ---- the account that the tool gives

-- Of two rows of one length the first is not the later one: where they first differ it has the earlier cell.
abbrev pub NotLater : List ℕ → List ℕ → Type 0
NotLater [] m = Unit {0}
NotLater (a ∷ l) [] = Unit {0}
NotLater (a ∷ l) (b ∷ m) = (a < b) ⊎ ((a ≡ b) × NotLater l m)

-- The row is a way from a to b, of all such a shortest, and of the shortest the first.
pub record FirstWay (touch : ℕ → ℕ → Type 0) (In : ℕ → Type 0) (a b : ℕ) (row : List ℕ) : Type 0 where
  pub way : Way touch In a b
  pub cells : cells_of way ≡ row
  pub shortest : (w : Way touch In a b) → length row ≤ length (cells_of w)
  pub first : (w : Way touch In a b) → length (cells_of w) ≡ length row → NotLater row (cells_of w)

-- Any account passes the check. The tool's own has the first way to the peak's parent for its path (DECISIONS 68).
pub record OwnAccount (touch : ℕ → ℕ → Type 0) (level : ℕ → ℕ) (p k : ℕ) (path island : List ℕ) : Type 0 where
  pub account : Account touch level p k path island
  pub parent : 0 < k → (q : ℕ) × TopPeak touch level p k q × FirstWay touch (λ c. k ≤ level c) p q path

-- The row has no cell twice.
abbrev pub Distinct : List ℕ → Type 0
Distinct [] = Unit {0}
Distinct (x ∷ l) = (Holds l x → ⊥) × Distinct l
