-- What is claimed of the definitions, beyond any code; `proofs/Claims.antt` has a proof of each. Assumes nothing.
use mathlib.Core.{Path.◌≡◌, List.List, List.[], List.◌∷◌, List.◌++◌, Logic.◌⊎◌, Logic.◌↔◌}
use Rattle.std.specs.Prelude.{ℕ, suc, ◌+◌, ◌-◌, ◌*◌, ◌≤◌, ◌<◌}
use lib.{IntN.ℤ, IntN.pos, ListN.length, ListN.replicate, Signed.mag}
use Rattle.relief.specs.Heights.{BLANK, level_of}
use Rattle.relief.specs.Peaks.{Way, least, Path, Peak, Outranks, KeyHeight, NoKey, Island, PassCell, Entry}
use Rattle.relief.specs.Peaks.{floor_of, pass_cell_of, Alike, prominence, Member, Among, InReadingOrder, PeakEntry}
use Rattle.relief.specs.{Peaks.Listed, Peaks.ListOf, Outline.Parent, Outline.Outline}
use Rattle.relief.specs.Accounts.{Account, OwnAccount, Distinct}
use Rattle.relief.specs.Runs.{Stage, Closed, Open, Batch, Rest, Further, Growing, StaysClosed}
use Rattle.relief.specs.Plane.{row_of, column_of, Plane, Shape, plane_of, touch_of, stage_of}
use Rattle.theorems.specs.Grids.{keyed, Follow, marked}

-- A symmetric way of touching that a test tells.
pub record Touching : Type 1 where
  pub touch : ℕ → ℕ → Type 0
  pub symmetric : (a b : ℕ) → touch a b → touch b a
  pub told : (a b : ℕ) → Dec (touch a b)

-- What is claimed of a grid that has an end.
pub record OfGrid (touch : ℕ → ℕ → Type 0) (level : ℕ → ℕ) : Type 1 where
  pub way-told : (f a b : ℕ) → Dec (Way touch (λ c. f < level c) a b)
  -- Every non-blank cell climbs to a peak at or above its own height.
  pub climbs : (c : ℕ) → 0 < level c
      → (p : ℕ) × Peak touch level p × ((w : Path touch level c p) × (level c ≤ least level w))
  pub key-or-none : (p : ℕ) → Peak touch level p → ((k : ℕ) × KeyHeight touch level p k) ⊎ NoKey touch level p
  pub key-not-none : (p k : ℕ) → KeyHeight touch level p k → NoKey touch level p → ⊥
  pub key-unique : (p k k' : ℕ) → KeyHeight touch level p k → KeyHeight touch level p k' → k ≡ k'
  -- A key height is a height, and below the peak's; "1 to 4,294,967,294" at levels below 2^32.
  pub key_below : (p k : ℕ) → Peak touch level p → KeyHeight touch level p k → (0 < k) × (k < level p)
      × (level p < 4294967296 → (1 ≤ prominence (level p) k) × (prominence (level p) k ≤ 4294967294))
  -- A key height is right if there is a path to outranking ground at or above it and a set around the peak, above it,
  -- that nothing higher than it touches from outside and in which nothing outranks.
  pub key-account : (p k o : ℕ) → 0 < k → Outranks touch level p o → Way touch (λ c. k ≤ level c) p o
      → (In : ℕ → Type 0) → In p → ((c : ℕ) → In c → k < level c)
      → ((a b : ℕ) → In a → (In b → ⊥) → touch a b → level b ≤ k) → ((c : ℕ) → Dec (In c))
      → ((c : ℕ) → In c → Outranks touch level p c → ⊥) → KeyHeight touch level p k
  -- The island's cells are above the key height, and nothing outside that touches it is.
  pub island-bounded : (p k : ℕ) → ((c : ℕ) → Island touch level p k c → k < level c)
      × ((a b : ℕ) → Island touch level p k a → (Island touch level p k b → ⊥) → touch a b → level b ≤ k)
  pub pass-unique : (p k c c' : ℕ) → PassCell touch level p k c → PassCell touch level p k c' → c ≡ c'
  pub pass-exists : (p k : ℕ) → Peak touch level p → KeyHeight touch level p k → (c : ℕ) × PassCell touch level p k c
  pub entry-unique : (e e' : Entry) → PeakEntry touch level e → PeakEntry touch level e' → e.cell ≡ e'.cell → e ≡ e'
  pub list-exists : (T : ℕ) → (l : List Entry) × ListOf touch level T l
  -- "0 lists what 1 lists"
  pub zero-lists-one : (l : List Entry) → ListOf touch level 0 l ↔ ListOf touch level 1 l
  -- "Give each peak that has a key height a parent": it has one, and no other peak has any.
  pub parent-exists : (p k : ℕ) → Peak touch level p → KeyHeight touch level p k → (q : ℕ) × Parent touch level p q
  pub parent-unique : (p q r : ℕ) → Parent touch level p q → Parent touch level p r → q ≡ r
  pub parent-none : (p q : ℕ) → NoKey touch level p → Parent touch level p q → ⊥
  -- The parent outranks its child.
  pub parent-outranks : (p q : ℕ) → Peak touch level p → Parent touch level p q → Outranks touch level p q
  -- "Prove that the parent of a listed peak is listed."
  pub parent_listed : (T q : ℕ) (e : Entry) → Listed touch level T e → Parent touch level e.cell q
      → (d : Entry) × (d.cell ≡ q) × Listed touch level T d
  pub outline-exists : (T levels : ℕ) → (text : List ℕ) × Outline touch level T levels text
  -- Two outlines that the definition allows are equal.
  pub outline-unique : (T levels : ℕ) (t u : List ℕ) → Outline touch level T levels t → Outline touch level T levels u
      → t ≡ u
  -- "A small check accepts any such account from any source, and no other; prove that each gives the one true key
  -- height": 0 stands for none.
  pub account-true : (p k : ℕ) (path island : List ℕ) → Peak touch level p → Account touch level p k path island
      → (0 < k → KeyHeight touch level p k) × (k ≡ 0 → NoKey touch level p)
  -- Whoever made them, two accounts of a peak have one key height and one island; the paths can be two.
  pub account-one : (p k k' : ℕ) (path path' island island' : List ℕ) → Peak touch level p
      → Account touch level p k path island → Account touch level p k' path' island' → (k ≡ k') × (island ≡ island')
  -- "For a peak the analyst clicks on, the tool gives an account": each peak has one.
  pub account-exists : (p : ℕ) → Peak touch level p
      → (k : ℕ) × (path : List ℕ) × (island : List ℕ) × Account touch level p k path island
  -- "The tool's own always passes, and its path visits no cell twice."
  pub own-account : (p k : ℕ) (path island : List ℕ) → OwnAccount touch level p k path island
      → Account touch level p k path island × Distinct path
  -- Two accounts of the tool's own of one peak are equal in every part.
  pub own-unique : (p k k' : ℕ) (path path' island island' : List ℕ) → Peak touch level p
      → OwnAccount touch level p k path island → OwnAccount touch level p k' path' island'
      → (k ≡ k') × (path ≡ path') × (island ≡ island')

module _ (touch : ℕ → ℕ → Type 0) (stage : ℕ → Stage) (columns T : ℕ) (batch : ℕ → List Entry) (rest : List Entry) where
  -- A run from its start, column by column, with what the calls handed out of it.
  pub record Handing : Type 0 where
    pub grows : Growing touch stage
    pub batches : (j : ℕ) → j < columns → Batch touch (stage j) (stage (suc j)) T (batch j)
    pub ended : Rest touch (stage columns) T rest

  -- What is claimed of that.
  pub record OfHanding : Type 0 where
    -- "The batches from start to end hold just the whole run's list, ..
    pub batches-hold : (l : List Entry) → ListOf touch (stage columns).level T l → (e : Entry)
        → Among e l ↔ (((j : ℕ) × (j < columns) × Among e (batch j)) ⊎ Among e rest)
    -- .. each peak once."
    pub batches-once : (i j : ℕ) (e e' : Entry) → i < j → j < columns → Member e (batch i) → Member e' (batch j)
        → e.cell ≡ e'.cell → ⊥
    pub rest-once : (i : ℕ) (e e' : Entry) → i < columns → Member e (batch i) → Member e' rest → e.cell ≡ e'.cell → ⊥
    -- Of a peak in a batch the list has the pass cell that was handed out, or an earlier one; of one in the rest, the
    -- same.
    pub batches-pass : (l : List Entry) → ListOf touch (stage columns).level T l → (j : ℕ) (d e : Entry) → j < columns
        → Member d (batch j) → Member e l → d.cell ≡ e.cell → pass_cell_of e.key ≤ pass_cell_of d.key
    pub rest-pass : (l : List Entry) → ListOf touch (stage columns).level T l → (d e : Entry)
        → Member d rest → Member e l → d.cell ≡ e.cell → pass_cell_of d.key ≡ pass_cell_of e.key

-- The peak of e is closed at both stages; the second has it as e', with an earlier pass cell.
pub record PassMoves (touch : ℕ → ℕ → Type 0) (s s' : Stage) (e e' : Entry) : Type 0 where
  pub closed : Closed touch s e
  pub after : Closed touch s' e'
  pub alike : Alike e e'
  pub earlier : pass_cell_of e'.key < pass_cell_of e.key

-- Of these columns of four cells the first two close the 2. Its pass is cell 6, which leads to the 3 below it; the 1 at
-- cell 4 leads nowhere. The third column has a 3 that touches that one, and makes it the pass.
abbrev pub moving : List ℤ
moving =
    (BLANK ∷ pos 2 ∷ BLANK ∷ BLANK ∷ []) ++ (pos 1 ∷ BLANK ∷ pos 1 ∷ pos 3 ∷ [])
    ++ (pos 3 ∷ BLANK ∷ BLANK ∷ BLANK ∷ [])

abbrev pub PassCanMove : Type 0
PassCanMove =
    PassMoves (touch_of (plane_of 4)) (stage_of (plane_of 4) 2 moving) (stage_of (plane_of 4) 3 moving)
    (keyed 1 (pos 2) (pos 1) 6) (keyed 1 (pos 2) (pos 1) 4)

-- The peak e is closed at both stages; its parent is q at the first and q' at the second.
pub record ParentChanges (touch : ℕ → ℕ → Type 0) (s s' : Stage) (e : Entry) (q q' : ℕ) : Type 0 where
  pub closed : Closed touch s e
  pub still : Closed touch s' e
  pub parent : Parent touch s.level e.cell q
  pub after : Parent touch s'.level e.cell q'
  pub other : q ≡ q' → ⊥

-- Of the columns 1 0 2 3 the first three close the 1, and its parent is the 2; with the fourth it is the 3.
abbrev pub changing : List ℤ
changing = pos 1 ∷ pos 0 ∷ pos 2 ∷ pos 3 ∷ []

abbrev pub ParentCanChange : Type 0
ParentCanChange =
    ParentChanges (touch_of (plane_of 1)) (stage_of (plane_of 1) 3 changing) (stage_of (plane_of 1) 4 changing)
    (keyed 0 (pos 1) (pos 0) 1) 2 3

pub record Claims : Type 1 where
  -- "Cell number = column x rows + row."
  pub place-number : (rows c : ℕ) → 0 < rows → (row_of rows c < rows) × (column_of rows c * rows + row_of rows c ≡ c)
  pub plane-symmetric : (rows a b : ℕ) → Plane rows a b → Plane rows b a
  pub plane-irreflexive : (rows a : ℕ) → Plane rows a a → ⊥
  pub plane-told : (rows a b : ℕ) → Dec (Plane rows a b)
  -- "The eight neighbours": there are eight numbers among which each touching cell is.
  pub plane-eight : (rows c : ℕ) → (eight : ℕ → ℕ) × ((d : ℕ) → Plane rows c d → (i : ℕ) × (i < 8) × (d ≡ eight i))
  -- The fence: a cell before the last column touches no cell of a further column.
  pub plane-fence : (rows columns a d : ℕ) → a < columns * rows - rows → columns * rows ≤ d → Plane rows a d → ⊥
  -- A run of heights of any shape is a growing run.
  pub run-grows : (shape : Shape) (heights : List ℤ) → Growing (touch_of shape) (λ j. stage_of shape j heights)
  pub grid : (t : Touching) (level : ℕ → ℕ) (n : ℕ) → ((c : ℕ) → n ≤ c → level c ≡ 0) → OfGrid t.touch level
  -- Two lists, two batches, or two rests that the definition allows are equal.
  pub order-unique : (P : Entry → Type 0) (l m : List Entry) → InReadingOrder P l → InReadingOrder P m → l ≡ m
  -- "A peak is closed exactly when the ground above its key height (or all its ground, if it has none) no longer
  -- reaches the newest column"
  pub closed-exactly : (touch : ℕ → ℕ → Type 0) (s : Stage) (e : Entry) → PeakEntry touch s.level e
      → Closed touch s e
      ↔ ((c : ℕ) → s.newest ≤ c → Way touch (λ d. floor_of e.key < s.level d) e.cell c → ⊥)
  -- "further columns leave a closed peak's cell, height and key height as they are, and can move its pass cell only to
  -- an earlier one", and it stays closed: ..
  pub closed-stays : (t : Touching) (s s' : Stage) → Further t.touch s s' → (e : Entry) → Closed t.touch s e
      → StaysClosed t.touch s' e
  -- .. and so for any number of columns, of any heights.
  pub closed-further : (shape : Shape) (columns k : ℕ) (heights more : List ℤ) (e : Entry)
      → columns * shape.rows ≤ length heights → Closed (touch_of shape) (stage_of shape columns heights) e
      → StaysClosed (touch_of shape) (stage_of shape (columns + k) (heights ++ more)) e
  pub closed-island : (t : Touching) (s s' : Stage) → Further t.touch s s' → (e : Entry) → Closed t.touch s e
      → (c : ℕ) → Island t.touch s.level e.cell (floor_of e.key) c
      ↔ Island t.touch s'.level e.cell (floor_of e.key) c
  -- "for an open one below the greatest legal height some further column would change its key height or unmake it": one
  -- of a single legal height, after which no peak of this cell has this key height, or as e none.
  pub open-can-change : (shape : Shape) (columns : ℕ) (heights : List ℤ) (e : Entry)
      → length heights ≡ columns * shape.rows
      → Open (touch_of shape) (stage_of shape columns heights) e → e.level < 4294967295
      → (z : ℤ) × (mag z < 2147483648) × (0 < level_of z) × ((d : Entry)
      → PeakEntry (touch_of shape) (stage_of shape (suc columns) (heights ++ replicate shape.rows z)).level d
      → d.cell ≡ e.cell → floor_of d.key ≡ floor_of e.key → ⊥)
  pub handing : (t : Touching) (stage : ℕ → Stage) (columns T : ℕ) (batch : ℕ → List Entry) (rest : List Entry)
      → Handing t.touch stage columns T batch rest → OfHanding t.touch stage columns T batch rest
  -- It can indeed move, though the peak is closed.
  pub pass-can-move : PassCanMove
  -- "Until the end a closed peak's parent may change; demand 3 doesn't cover parents."
  pub parent-can-change : ParentCanChange
  -- "The ten grids marked * below are shown to follow from the definitions", and the outline and the pass
  -- of document 02.
  pub marked-follow : Follow marked
