-- Grids and runs of any shape. The first section alone knows how the cells of a shape touch; the rest follows from it.
--     touch?, touch-*      touching is symmetric and told by a test
--     newest-*             the newest cells are a fence, touch the next column, and don't go back
--     touch-terrain        levels that end are a terrain; so are a grid of heights, and the first columns of it
--     stage-further        the stage of some columns, and that of as many or more
--     run-grows            the stages of a run of heights
--     stage-open-changes   an open peak: a further column higher than it changes its key height or unmakes it
-- Assumes nothing.
use mathlib.Core.Path.{◌≡◌, refl, sym, ◌∙◌, ap}
use mathlib.Core.Bool.{Bool}
use mathlib.Core.List.{List, ◌++◌}
use Prim.Native.Nat.{ℕ, suc, ◌+◌, ◌-◌, ◌*◌, ◌≤◌, ◌<◌}
use native.Mathlib.Nat.{suc-mul, zero-mul, mul-le-mul_right}
use native.Mathlib.Omega.{arith}
use lib.IntN.{ℤ}
use lib.ListN.{length, take, get_or, replicate, length-take, get_or-replicate}
use lib.Seq.{take-append-le, get_or-append-add}
use Rattle.relief.specs.Heights.{BLANK, level_of, levels}
use Rattle.relief.specs.Peaks.{Island, Entry, floor_of, PeakEntry}
use Rattle.relief.specs.Plane.{Shape, touch_of, newest_of, stage_of}
use Rattle.relief.specs.Runs.{Open, Further, Growing}
use Rattle.relief.specs.Inner.{Decides}
use Rattle.relief.proofs.Tests.{split, decide, le-decides, and-decides, any-decides}
use Rattle.relief.proofs.Levels.{levels-end, levels-take}
use Rattle.relief.proofs.Ways.{way_end}
use Rattle.relief.proofs.Flats.{Terrain, land-below}
use Rattle.relief.proofs.Keys.{island-decides}
use Rattle.relief.proofs.BatchSurvey.{Staged}
use Rattle.relief.proofs.Closed.{open-changes}
use Rattle.relief.proofs.Plane.{plane?, plane-decides, plane-symmetric, plane-fence, plane-next, cell-rows}

-- ---- how the cells of a shape touch

abbrev pub touch? : Shape → ℕ → ℕ → Bool
touch? shape = plane? shape.rows

module _ (shape : Shape) where
  pub touch-decides : (a b : ℕ) → Decides (touch_of shape a b) (touch? shape a b)
  touch-decides = plane-decides shape.rows

  pub touch-symmetric : (a b : ℕ) → touch_of shape a b → touch_of shape b a
  touch-symmetric = plane-symmetric shape.rows

  -- no cell before the newest ones touches one that is still to come
  pub newest-fence : (columns a d : ℕ) → a < newest_of shape (columns * shape.rows) → columns * shape.rows ≤ d
      → touch_of shape a d → ⊥
  newest-fence = plane-fence shape.rows

  -- each of the newest cells touches one of the next column
  pub newest-next : (columns c : ℕ) → newest_of shape (columns * shape.rows) ≤ c → c < columns * shape.rows
      → (d : ℕ) × (columns * shape.rows ≤ d) × (d < suc columns * shape.rows) × touch_of shape c d
  newest-next columns c l m =
      let e = suc-mul columns shape.rows in
      (c + shape.rows, omega arith, omega arith, plane-next shape.rows c (cell-rows shape.rows columns c m))

  pub newest-rises : (m n : ℕ) → m ≤ n → newest_of shape m ≤ newest_of shape n
  newest-rises m n l = omega arith

-- ---- grids and runs

module _ (shape : Shape) where
  pub touch-terrain : {level : ℕ → ℕ} {n : ℕ} → ((c : ℕ) → n ≤ c → level c ≡ 0)
      → Terrain (touch_of shape) (touch? shape) level n
  touch-terrain ends = record { symmetric = touch-symmetric shape; decides = touch-decides shape; ends = ends }

  pub shape-terrain : (heights : List ℤ) → Terrain (touch_of shape) (touch? shape) (levels heights) (length heights)
  shape-terrain heights = touch-terrain (levels-end heights)

  pub stage-staged : (columns : ℕ) (heights : List ℤ)
      → Staged (touch_of shape) (touch? shape) (stage_of shape columns heights)
  stage-staged columns heights = touch-terrain (λ c h. levels-end (take (columns * shape.rows) heights) c
      (let l = length-take (columns * shape.rows) heights in omega arith))

  pub stage-further : (i j : ℕ) (hs hs' : List ℤ) → i ≤ j
      → take (i * shape.rows) hs' ≡ take (i * shape.rows) hs
      → Further (touch_of shape) (stage_of shape i hs) (stage_of shape j hs')
  stage-further i j hs hs' l e =
      let m : i * shape.rows ≤ j * shape.rows = mul-le-mul_right shape.rows l in
      record {
        grows = m;
        kept = λ c h. levels-take hs' (j * shape.rows) c (omega arith) ∙ sym (levels-take hs' (i * shape.rows) c h)
            ∙ ap (λ (taken : List ℤ). levels taken c) e;
        newer = newest-rises shape (i * shape.rows) (j * shape.rows) m;
        fence = newest-fence shape i;
        ends = (stage-staged i hs).ends;
        ends_after = (stage-staged j hs').ends;
      }

  pub run-grows : (heights : List ℤ) → Growing (touch_of shape) (λ j. stage_of shape j heights)
  run-grows heights = record {
    start = zero-mul shape.rows;
    further = λ j. stage-further j (suc j) heights heights (omega arith) refl;
  }

-- ---- an open peak

module _ (shape : Shape) (columns : ℕ) (heights : List ℤ) (whole : length heights ≡ columns * shape.rows) where
  -- its island has a cell among the newest
  open-newest : (e : Entry) → Open (touch_of shape) (stage_of shape columns heights) e
      → (c : ℕ) × (c < columns * shape.rows)
      × (Island (touch_of shape) (stage_of shape columns heights).level e.cell (floor_of e.key) c
      × (newest_of shape (columns * shape.rows) ≤ c))
  open-newest e o =
      let t = stage-staged shape columns heights in
      split
      (decide (any-decides
      (λ c. and-decides (island-decides t e.cell (floor_of e.key) c)
      (le-decides (newest_of shape (columns * shape.rows)) c))
      (columns * shape.rows)))
      (λ h. h)
      (λ n. absurd (o.unclosed (record {
        right = o.right;
        away = λ c w l. n (c, land-below t c (let i = way_end w in omega arith), (w, l));
      })))

  module _ (z : ℤ) where
    -- the run with one more column, all of it of height z
    abbrev pub grown : List ℤ
    grown = heights ++ replicate shape.rows z

    grown-level : (d : ℕ) → columns * shape.rows ≤ d → d < suc columns * shape.rows
        → (stage_of shape (suc columns) grown).level d ≡ level_of z
    unfolding levels
    grown-level d l m =
        let e = suc-mul columns shape.rows in
        let i : length heights + (d - columns * shape.rows) ≡ d = omega arith in
        levels-take grown (suc columns * shape.rows) d m
        ∙ ap level_of
        (ap (λ (x : ℕ). get_or grown x BLANK) (sym i)
        ∙ get_or-append-add heights (replicate shape.rows z) (d - columns * shape.rows) BLANK
        ∙ get_or-replicate shape.rows (d - columns * shape.rows) z BLANK (omega arith))

    pub stage-open-changes : (e : Entry) → Open (touch_of shape) (stage_of shape columns heights) e → e.level < level_of
        z
        → (d : Entry) → PeakEntry (touch_of shape) (stage_of shape (suc columns) grown).level d
        → d.cell ≡ e.cell → floor_of d.key ≡ floor_of e.key → ⊥
    stage-open-changes e o l d right =
        let (c, h, (w, n)) = open-newest e o in
        let (x, i, j, t) = newest-next shape columns c n h in
        let v = grown-level x i j in
        let k = o.right.height in
        open-changes (stage-staged shape columns heights) (stage-staged shape (suc columns) grown)
        (stage-further shape columns (suc columns) heights grown (omega arith)
        (take-append-le (columns * shape.rows) heights (replicate shape.rows z) (omega arith)))
        e o.right c x w t (omega arith) d right
