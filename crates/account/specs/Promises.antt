-- The account of a peak, and the check of any account: request (iii) of document 02.
--     accounted_told a, verdict_told v   what an answer tells the caller
--     account_tests, check_tests         the tests in the paper's order
--     row_after                         a lent row after an answer
--     Accounts                         the promise of the account: it determines the answer and both rows on all
--                                      inputs, and all of the work area but the bytes that it uses
--     Checks                           the promise of the check: it determines the answer, and of the work area as much
-- Assumes nothing.
use Rattle.std.specs.Prelude.{Result, Ok, Err}
use Rattle.std.specs.Prelude.{◌≡◌, Bool, true, not, cond, ◌||◌, List, [], ◌∷◌, ◌++◌, ◌↔◌, ℕ, ltb, ℤ, length, drop}
use Rattle.std.specs.Int.{w32}
use Rattle.std.proofs.Common.{SFits}
use Rattle.relief.specs.Heights.{level_of, levels}
use Rattle.relief.specs.Peaks.{Peak}
use Rattle.relief.specs.Plane.{plane_of, touch_of}
use Rattle.relief.specs.Accounts.{Account, OwnAccount}
use Rattle.record.specs.declared.Refusal.{Refusal}
use Rattle.record.specs.declared.Refusal.TheVariants.{NoPeak, AccountRoom}
use Rattle.record.specs.Refusals.{Told, granted, told_of, first_of, told_by}
use Rattle.heights.specs.Grid.{grid_tests}
use Rattle.table.specs.Promises.{Worked}
use Rattle.account.specs.declared.Given.{Given}

-- The level of the key height, 0 for none, and how many cells path and island have.
abbrev pub accounted_told : Result Given Refusal → Told
accounted_told (Ok a) = granted (level_of a.key ∷ a.path ∷ a.island ∷ [])
accounted_told (Err r) = told_of r

-- 1 for yes, 0 for no
abbrev pub verdict_told : Result Bool Refusal → Told
verdict_told (Ok good) = granted (cond good 1 0 ∷ [])
verdict_told (Err r) = told_of r

-- A key height in an answer is a signed 32-bit number; of those one has a given level (`LevelInjective` of `scale`).
abbrev pub key_fits : Result Given Refusal → Type 0
key_fits (Ok a) = SFits w32 a.key
key_fits (Err r) = Unit {0}

-- "order 1, 2, 3, 4, 17, 18, the check's to 17". `work` is a length; `peak` says whether the cell is a peak's.
unfoldable pub check_tests : ℕ → ℕ → ℕ → Bool → List (Bool × Refusal)
check_tests rows cells work peak =
    grid_tests rows cells work
    -- 17: "the cell is not a peak's cell"
    ++ ((not peak, NoPeak) ∷ [])

unfoldable pub account_tests : ℕ → ℕ → ℕ → Bool → ℕ → ℕ → List (Bool × Refusal)
account_tests rows cells work peak path island =
    check_tests rows cells work peak
    -- 18: "path or island room below one number per cell". No number comes with it.
    ++ ((ltb path cells || ltb island cells, AccountRoom) ∷ [])

-- "A refusal [..] writes nothing"; "other lent numbers beyond those counted stay as they were."
abbrev pub row_after : Result Given Refusal → List ℕ → List ℕ → List ℕ
row_after (Ok a) cells row = cells ++ drop (length cells) row
row_after (Err r) cells row = row

-- The heights are lent to be read.
pub record Accounts (rows : ℕ) (heights : List ℤ) (cell : ℕ) (work work' path path' island island' : List ℕ)
    (answer : Result Given Refusal) : Type 0 where
  pub peak : Bool
  pub told : (peak ≡ true) ↔ Peak (touch_of (plane_of rows)) (levels heights) cell
  pub key : ℕ
  pub way : List ℕ
  pub isle : List ℕ
  -- the account, where nothing refuses
  pub right : first_of (account_tests rows (length heights) (length work) peak (length path) (length island)) ≡ Ok tt
      → OwnAccount (touch_of (plane_of rows)) (levels heights) cell key way isle
  pub answered : accounted_told answer
      ≡ told_by (account_tests rows (length heights) (length work) peak (length path) (length island))
      (granted (key ∷ length way ∷ length isle ∷ []))
  pub fits : key_fits answer
  pub path_after : path' ≡ row_after answer way path
  pub island_after : island' ≡ row_after answer isle island
  pub worked : Worked (grid_tests rows (length heights) (length work)) (length heights) work work'

-- "A small check accepts any such account from any source, and no other". Heights, path and island are lent to be read.
pub record Checks (rows : ℕ) (heights : List ℤ) (cell : ℕ) (key : ℤ) (path island work work' : List ℕ)
    (answer : Result Bool Refusal) : Type 0 where
  pub peak : Bool
  pub told : (peak ≡ true) ↔ Peak (touch_of (plane_of rows)) (levels heights) cell
  pub good : Bool
  pub judged : first_of (check_tests rows (length heights) (length work) peak) ≡ Ok tt
      → (good ≡ true) ↔ Account (touch_of (plane_of rows)) (levels heights) cell (level_of key) path island
  pub answered : verdict_told answer
      ≡ told_by (check_tests rows (length heights) (length work) peak) (granted (cond good 1 0 ∷ []))
  pub worked : Worked (grid_tests rows (length heights) (length work)) (length heights) work work'
