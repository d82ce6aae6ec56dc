-- The account of a peak that passed all tests: inner contracts.
--     Drawable     what drawing it asks
--     Drew         what it does
-- Assumes nothing.
use Rattle.std.specs.Prelude.{Ok}
use Rattle.std.specs.Prelude.{◌≡◌, List, [], ◌∷◌, ℕ, ◌*◌, ◌≤◌, ◌<◌, length, get_or}
use Rattle.relief.specs.Peaks.{Peak, KeyHeight, NoKey}
use Rattle.relief.specs.Plane.{plane_of, touch_of}
use Rattle.relief.specs.Accounts.{OwnAccount}
use Rattle.relief.specs.Inner.{cut}
use Rattle.record.specs.Refusals.{granted}
use Rattle.area.specs.Area.{Area, level_in}
use Rattle.account.specs.declared.Given.{Given}
use Rattle.account.specs.Promises.{accounted_told, key_fits, row_after}

-- k is the key height of the peak at p, or 0 where it has none
pub record Drawable (s : List ℕ) (n rows p k : ℕ) (path island : List ℕ) : Type 0 where
  pub area : Area s n
  pub rows_some : 0 < rows
  pub rows_few : rows ≤ 1024
  pub above : k < cut n (level_in s) p
  pub peak : Peak (touch_of (plane_of rows)) (cut n (level_in s)) p
  pub none : k ≡ 0 → NoKey (touch_of (plane_of rows)) (cut n (level_in s)) p
  pub some : 0 < k → KeyHeight (touch_of (plane_of rows)) (cut n (level_in s)) p k
  pub path_room : n ≤ length path
  pub island_room : n ≤ length island

pub record Drew (rows : ℕ) (s t : List ℕ) (n p : ℕ) (path path' island island' : List ℕ) (answer : Given)
    : Type 0 where
  pub key : ℕ
  pub way : List ℕ
  pub isle : List ℕ
  pub right : OwnAccount (touch_of (plane_of rows)) (cut n (level_in s)) p key way isle
  pub answered : accounted_told (Ok answer) ≡ granted (key ∷ length way ∷ length isle ∷ [])
  pub fits : key_fits (Ok answer)
  pub path_after : path' ≡ row_after (Ok answer) way path
  pub island_after : island' ≡ row_after (Ok answer) isle island
  pub beyond : (i : ℕ) → 16 * n ≤ i → get_or t i 0 ≡ get_or s i 0
  pub len : length t ≡ length s
