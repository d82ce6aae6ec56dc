-- Sound records: section "Run file" of document 01.
--     Keyless p                      both key fields are missing
--     Keyed heights p                neither is, and they fit the grid
--     Sound heights least p          the record p is sound, if the record before it leaves it the cells from least on
--     ith_of records i               the i-th record
--     least_at records i             the least cell that is later than that of the record before the i-th
--     FirstUnsound heights records i i is the index of the first record that is not sound, their number if all are
--     GridOf rows heights            a grid that has a file: its rows, its cells, its heights
--     SoundRow heights records       every record of the row is sound
-- `SFits w32 z` says that z is a signed 32-bit number. Assumes nothing.
use Rattle.std.specs.Prelude.{List, ◌⊎◌, ◌≡◌, ℕ, zero, suc, ◌%◌, ◌≤◌, ◌<◌, ℤ, negsuc, length, get_or, ◌<ℤ◌}
use Rattle.std.specs.Int.{w32}
use Rattle.std.proofs.Common.{SFits}
use Rattle.relief.specs.Heights.{BLANK}
use Rattle.record.specs.declared.Peak.{Peak}
use Rattle.record.specs.Records.{without_key}

-- "both key fields are missing": "the last two are -2147483648 and 4294967295"
pub record Keyless (p : Peak) : Type 0 where
  pub key : p.key ≡ negsuc 2147483647
  pub pass : p.pass ≡ 4294967295

-- "neither is, the key height is below the height, and the pass cell exists and holds the key height"
pub record Keyed (heights : List ℤ) (p : Peak) : Type 0 where
  pub key : p.key ≡ negsuc 2147483647 → ⊥
  pub pass : p.pass ≡ 4294967295 → ⊥
  pub below : p.key <ℤ p.height
  pub exists : p.pass < length heights
  pub holds : get_or heights p.pass BLANK ≡ p.key

-- "A record is sound if its cell exists, is later than the record's before it, holds the stored height and is not
-- blank; and either both key fields are missing, or neither is [..]"
pub record Sound (heights : List ℤ) (least : ℕ) (p : Peak) : Type 0 where
  pub exists : p.cell < length heights
  pub later : least ≤ p.cell
  pub holds : get_or heights p.cell BLANK ≡ p.height
  pub height : p.height ≡ BLANK → ⊥
  pub keys : Keyless p ⊎ Keyed heights p

-- Behind the last record nothing is asked for.
unfoldable pub ith_of : List Peak → ℕ → Peak
ith_of records i = get_or records i (without_key 0 BLANK)

-- The first record has none before it.
unfoldable pub least_at : List Peak → ℕ → ℕ
least_at records zero = 0
least_at records (suc i) = suc (ith_of records i).cell

-- "index of the first such record"
pub record FirstUnsound (heights : List ℤ) (records : List Peak) (i : ℕ) : Type 0 where
  pub within : i ≤ length records
  pub before : (j : ℕ) → j < i → Sound heights (least_at records j) (ith_of records j)
  pub here : i < length records → Sound heights (least_at records i) (ith_of records i) → ⊥

-- "A run has 1 to 1,024 rows and zero or more columns, at most 1,048,576 cells. Heights are lent as signed 32-bit
-- numbers".
pub record GridOf (rows : ℕ) (heights : List ℤ) : Type 0 where
  pub some : 0 < rows
  pub few : rows ≤ 1024
  pub whole : length heights % rows ≡ 0
  pub cells : length heights ≤ 1048576
  pub fit : (i : ℕ) → i < length heights → SFits w32 (get_or heights i BLANK)

abbrev pub SoundRow : List ℤ → List Peak → Type 0
SoundRow heights records =
    (i : ℕ) → i < length records → Sound heights (least_at records i) (ith_of records i)
