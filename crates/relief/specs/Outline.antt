-- The outline of lesser peaks under greater ones: request (i) of document 02, over any way of touching. What the
-- request calls a level is a depth here, since a level is what a cell has (`Heights`). Assumes nothing.
use mathlib.Core.{Path.◌≡◌, Bool.cond, List.List, List.[], List.◌∷◌, List.◌++◌, Logic.◌⊎◌}
use Rattle.std.specs.Prelude.{ℕ, zero, suc, ◌+◌, ◌-◌, ◌/◌, ◌%◌, ◌≤◌, ◌<◌}
use lib.{Dec.ltb, IntN.ℤ, IntN.pos, IntN.negsuc, ListN.length}
use Rattle.relief.specs.Heights.{height_of}
use Rattle.relief.specs.Peaks.{Way, Peak, KeyHeight, NoKey, Entry, floor_of, pass_cell_of, Member, InReadingOrder}
use Rattle.relief.specs.Peaks.{Listed}

-- ---- parents and children

-- "Passes under one peak go by falling height, then pass cell, then child's cell."
abbrev pub Sooner : Entry → Entry → Type 0
Sooner d e =
    (floor_of e.key < floor_of d.key)
    ⊎ ((floor_of d.key ≡ floor_of e.key)
    × ((pass_cell_of d.key < pass_cell_of e.key)
    ⊎ ((pass_cell_of d.key ≡ pass_cell_of e.key) × (d.cell < e.cell))))

abbrev pub Falling : List Entry → Type 0
Falling [] = Unit {0}
Falling (x ∷ l) = ((e : Entry) → Member e l → Sooner x e) × Falling l

-- The list holds just the entries of which P says yes, each once, in that order.
pub record InPassOrder (P : Entry → Type 0) (l : List Entry) : Type 0 where
  pub falling : Falling l
  pub sound : (e : Entry) → Member e l → P e
  pub complete : (e : Entry) → P e → Member e l

module _ (touch : ℕ → ℕ → Type 0) (level : ℕ → ℕ) where
  -- "the region reachable from it through cells at or above its key height"
  abbrev pub Region : ℕ → ℕ → ℕ → Type 0
  Region p k = Way touch (λ c. k ≤ level c) p

  -- "the top peak (highest, then earliest) of the region"
  pub record TopPeak (p k q : ℕ) : Type 0 where
    pub peak : Peak touch level q
    pub inside : Region p k q
    pub top : (r : ℕ) → Peak touch level r → Region p k r → (level r < level q) ⊎ ((level r ≡ level q) × (q ≤ r))

  -- "Give each peak that has a key height a parent": q is that of p.
  pub record Parent (p q : ℕ) : Type 0 where
    pub key : ℕ
    pub keyed : KeyHeight touch level p key
    pub above : TopPeak p key q

  -- A listed peak whose parent is q.
  pub record Child (T q : ℕ) (e : Entry) : Type 0 where
    pub listed : Listed touch level T e
    pub under : Parent e.cell q

  -- "Tops": listed peaks that have no key height, and so no parent.
  pub record Top (T : ℕ) (e : Entry) : Type 0 where
    pub listed : Listed touch level T e
    pub keyless : NoKey touch level e.cell

  -- What the outline of the listed peaks is made of: "Tops stand in reading order", and under each peak its children.
  pub record Family (T : ℕ) : Type 0 where
    pub tops : List Entry
    pub children : ℕ → List Entry
    pub tops_right : InReadingOrder (Top T) tops
    pub children_right : (q : ℕ) → InPassOrder (Child T q) (children q)

-- ---- lines

-- A number in decimal digits, as bytes: 48 is the digit 0. It has no more digits than n + 1, which only says when to
-- stop.
abbrev pub digits_of : ℕ → ℕ → List ℕ
digits_of zero n = []
digits_of (suc more) n = cond (ltb n 10) ((48 + n) ∷ []) (digits_of more (n / 10) ++ ((48 + n % 10) ∷ []))

unfoldable pub decimal_of : ℕ → List ℕ
decimal_of n = digits_of (suc n) n

-- A height may be negative; 45 is the sign (`negsuc n` is -(n + 1)).
abbrev pub sign_of : ℤ → List ℕ
sign_of (pos n) = decimal_of n
sign_of (negsuc n) = 45 ∷ decimal_of (suc n)

-- "A line holds the level (a pass has its upper peak's), `peak` or `pass`, cell and height, and on a peak's line the
-- number of its direct children left out as too deep." One space (32) between, a line feed (10) at the end.
unfoldable pub peak_line : ℕ → ℕ → ℕ → ℕ → List ℕ
peak_line depth cell level out =
    -- peak
    decimal_of depth ++ (32 ∷ 112 ∷ 101 ∷ 97 ∷ 107 ∷ 32 ∷ decimal_of cell)
    ++ (32 ∷ sign_of (height_of level)) ++ (32 ∷ decimal_of out) ++ (10 ∷ [])

unfoldable pub pass_line : ℕ → ℕ → ℕ → List ℕ
pass_line depth cell level =
    -- pass
    decimal_of depth ++ (32 ∷ 112 ∷ 97 ∷ 115 ∷ 115 ∷ 32 ∷ decimal_of cell) ++ (32 ∷ sign_of (height_of level))
    ++ (10 ∷ [])

-- ---- the text

-- the texts of some things, one behind the other
unfoldable pub each : {A : Type 0} → (A → List ℕ) → List A → List ℕ
each text [] = []
each text (x ∷ l) = text x ++ each text l

-- "a peak's line is followed by its passes, and each pass by the peak it leads down to, to a stated number of levels":
-- `left` levels are left below this one. At the last one the line tells how many children are left out, else none are.
unfoldable pub peak_text : (ℕ → List Entry) → ℕ → ℕ → Entry → List ℕ
peak_text children zero depth e = peak_line depth e.cell e.level (length (children e.cell))
peak_text children (suc left) depth e =
    peak_line depth e.cell e.level 0
    ++ each (λ d. pass_line depth (pass_cell_of d.key) (floor_of d.key) ++ peak_text children left (suc depth) d)
    (children e.cell)

-- "Tops stand in reading order at level 1."
abbrev pub outline_text : (ℕ → List Entry) → ℕ → List Entry → List ℕ
outline_text children levels tops = each (peak_text children (levels - 1) 1) tops

-- The text of the outline of the peaks listed at T, to so many levels.
pub record Outline (touch : ℕ → ℕ → Type 0) (level : ℕ → ℕ) (T levels : ℕ) (text : List ℕ) : Type 0 where
  pub family : Family touch level T
  pub written : text ≡ outline_text family.children levels family.tops
