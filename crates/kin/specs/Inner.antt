-- The inner contracts of linking: first the listed peaks are hung at their passes, then the passes threaded under their
-- upper peaks. Who trusts the check needs none of this to read `Kin`.
--     OneOf c l, Sorted R l      the cell c is one of the list; each cell of the list is in R to all behind it
--     Row                        a chain of links leads through just the cells of which P says yes, in the order R
--     listed                     the cell is that of a listed peak
--     Hangs s n T x d            d is the cell of a listed peak, and x its pass
--     first_in w                 the first peak of a pass that has the number w in the parents' quarter
--     Hanging, Hung              what hanging all peaks asks, and what it leaves once it is at the cell c
--     Hangable                   what hanging one peak asks
--     Entered, Filed, FiledCell  what is done with a top, with another listed peak, and with any cell
--     Threading, Threaded        what threading all passes asks, and what it leaves once it is at the place i
--     Threadable, ThreadedCell   what threading one cell asks, and what is done with it
-- Assumes nothing.
use Rattle.std.specs.Prelude.{◌≡◌, Bool, true, false, cond, List, [], ◌∷◌, ◌⊎◌, ℕ, ◌+◌, ◌-◌, ◌*◌, ◌≤◌, ◌<◌, length}
use Rattle.words.specs.Words.{word_at}
use Rattle.area.specs.Area.{Area, level_in, parent_in, pass_in, pass_of, cell_in, mark_in, Kept, prio}
use Rattle.sweep.specs.Sweep.{cell_at, Ordered}
use Rattle.choice.specs.declared.Part.TheVariants.{Whole}
use Rattle.choice.specs.Inner.{chosen_in}
use Rattle.kin.specs.Kin.{Chain}

-- ---- chains of known cells

abbrev pub OneOf : ℕ → List ℕ → Type 0
OneOf c [] = ⊥
OneOf c (x ∷ l) = (c ≡ x) ⊎ OneOf c l

abbrev pub Sorted : (ℕ → ℕ → Type 0) → List ℕ → Type 0
Sorted R [] = Unit {0}
Sorted R (x ∷ l) = ((y : ℕ) → OneOf y l → R x y) × Sorted R l

pub record Row (next : ℕ → ℕ) (n first : ℕ) (R : ℕ → ℕ → Type 0) (P : ℕ → Type 0) (most : ℕ) : Type 0 where
  pub cells : List ℕ
  pub chain : Chain next n first cells
  pub few : length cells ≤ most
  pub sorted : Sorted R cells
  pub sound : (c : ℕ) → OneOf c cells → P c
  pub complete : (c : ℕ) → P c → OneOf c cells

-- ---- peaks hung at their passes

abbrev pub listed : List ℕ → ℕ → ℕ → ℕ → Bool
listed s n T c = chosen_in s n T Whole c

pub record Hangs (s : List ℕ) (n T x d : ℕ) : Type 0 where
  pub cell : d < n
  pub peak : listed s n T d ≡ true
  pub keyed : parent_in s n d ≡ d → ⊥
  pub pass : pass_of s n d ≡ x

-- A mark says that there is one; 2^22 is no cell.
unfoldable pub first_in : ℕ → ℕ
first_in w = cond (mark_in w) (cell_in w) 4194304

pub record Hanging (s : List ℕ) (n T : ℕ) : Type 0 where
  pub area : Area s n
  pub inside : (c : ℕ) → c < n → 0 < level_in s c → parent_in s n c < n
  pub passes : (c : ℕ) → c < n → 0 < level_in s c → pass_of s n c < n
  pub slopes : (x d : ℕ) → Hangs s n T x d → (0 < level_in s x) × (listed s n T x ≡ false)

-- The cells from c on are seen to. Cells that are not listed keep their numbers in the pass quarter.
pub record Hung (s t : List ℕ) (n T c : ℕ) : Type 0 where
  pub below : c ≤ n
  pub row : (x : ℕ) → x < n → 0 < level_in s x → listed s n T x ≡ false
      → Row (parent_in t n) n (first_in (parent_in t n x)) ◌<◌ (λ d. Hangs s n T x d × (c ≤ d)) (n - c)
  pub marked : (x : ℕ) → x < n → 0 < level_in s x → listed s n T x ≡ false → mark_in (parent_in t n x) ≡ true
      → (d : ℕ) × Hangs s n T x d
  pub plain : (q : ℕ) → q < n → listed s n T q ≡ true → mark_in (parent_in t n q) ≡ false
  pub tops : (q : ℕ) → c ≤ q → q < n → 0 < level_in s q → parent_in s n q ≡ q → parent_in t n q ≡ 8388608
  pub lesser : (d : ℕ) → d < n → 0 < level_in s d → (parent_in s n d ≡ d → ⊥) → parent_in t n d < 8388608
  pub ends : (q : ℕ) → c ≤ q → q < n → listed s n T q ≡ true → pass_in t n q ≡ 4194304
  pub passes_left : (d : ℕ) → d < n → (listed s n T d ≡ true → d < c) → pass_in t n d ≡ pass_in s n d
  pub parents_left : (q : ℕ) → q < c → listed s n T q ≡ true → parent_in t n q ≡ parent_in s n q
  pub no_root : (d : ℕ) → d < n → 0 < level_in s d → listed s n T d ≡ false → parent_in t n d ≡ d → ⊥
  pub kept : Kept s t n

-- what hanging one peak asks
pub record Hangable (s : List ℕ) (n c : ℕ) : Type 0 where
  pub area : Area s n
  pub cell : c < n
  pub pass : pass_of s n c < n
  pub apart : pass_of s n c ≡ c → ⊥

-- t is s with c a peak that has this link, and no passes under it as yet
pub record Entered (s t : List ℕ) (n c link : ℕ) : Type 0 where
  pub own : parent_in t n c ≡ link
  pub ended : pass_in t n c ≡ 4194304
  pub other : (j : ℕ) → (j ≡ 2 * n + c → ⊥) → (j ≡ 3 * n + c → ⊥) → word_at t j ≡ word_at s j
  pub len : length t ≡ length s

-- t is s with c put before the other peaks of its pass x
pub record Filed (s t : List ℕ) (n c x : ℕ) : Type 0 where
  pub own : parent_in t n c ≡ first_in (parent_in s n x)
  pub first : parent_in t n x ≡ c + 1048576
  pub ended : pass_in t n c ≡ 4194304
  pub other : (j : ℕ) → (j ≡ 2 * n + c → ⊥) → (j ≡ 2 * n + x → ⊥) → (j ≡ 3 * n + c → ⊥) → word_at t j ≡ word_at s j
  pub len : length t ≡ length s

pub data FiledCell (s t : List ℕ) (n T c : ℕ) : Type 0 where
  left : listed s n T c ≡ false → t ≡ s → FiledCell s t n T c
  top : listed s n T c ≡ true → parent_in s n c ≡ c → Entered s t n c 8388608 → FiledCell s t n T c
  hung : listed s n T c ≡ true → (parent_in s n c ≡ c → ⊥) → Filed s t n c (pass_of s n c) → FiledCell s t n T c

-- ---- passes threaded under their upper peaks

-- x stands in the order from the place i on, is a pass, and is to be threaded under q
pub record Under (s : List ℕ) (n m i q x : ℕ) : Type 0 where
  pub place : ℕ
  pub from : i ≤ place
  pub to : place < m
  pub cell : cell_at s n place ≡ x
  pub pass : mark_in (parent_in s n x) ≡ true
  pub upper : pass_of s n x ≡ q

-- No pass is to be threaded under another.
pub record Threading (s : List ℕ) (n m : ℕ) : Type 0 where
  pub area : Area s n
  pub ordered : Ordered s n m
  pub uppers : (x : ℕ) → x < n → 0 < level_in s x → mark_in (parent_in s n x) ≡ true
      → (pass_of s n x < n) × (mark_in (parent_in s n (pass_of s n x)) ≡ false)

-- The places from i on are seen to.
pub record Threaded (s t : List ℕ) (n m i : ℕ) : Type 0 where
  pub below : i ≤ m
  pub row : (q : ℕ) → q < n → mark_in (parent_in s n q) ≡ false → n ≤ pass_in s n q
      → Row (pass_in t n) n (pass_in t n q) (λ x y. prio (level_in s) x < prio (level_in s) y) (Under s n m i q) (m - i)
  pub left : (j : ℕ) → j < i → mark_in (parent_in s n (cell_at s n j)) ≡ true
      → pass_in t n (cell_at s n j) ≡ pass_in s n (cell_at s n j)
  pub other : (j : ℕ) → (3 * n ≤ j → j < 4 * n → ⊥) → word_at t j ≡ word_at s j
  pub len : length t ≡ length s

-- what threading one cell asks
pub record Threadable (s : List ℕ) (n x : ℕ) : Type 0 where
  pub area : Area s n
  pub cell : x < n
  pub upper : mark_in (parent_in s n x) ≡ true → (pass_of s n x < n) × (pass_of s n x ≡ x → ⊥)

-- t is s with the pass x put before the other passes under q
pub record Put (s t : List ℕ) (n x q : ℕ) : Type 0 where
  pub own : pass_in t n x ≡ pass_in s n q
  pub first : pass_in t n q ≡ x
  pub other : (j : ℕ) → (j ≡ 3 * n + x → ⊥) → (j ≡ 3 * n + q → ⊥) → word_at t j ≡ word_at s j
  pub len : length t ≡ length s

pub data ThreadedCell (s t : List ℕ) (n x : ℕ) : Type 0 where
  left : mark_in (parent_in s n x) ≡ false → t ≡ s → ThreadedCell s t n x
  put : mark_in (parent_in s n x) ≡ true → Put s t n x (pass_of s n x) → ThreadedCell s t n x
