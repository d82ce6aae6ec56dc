-- What is claimed of levels and prominence.
--     LevelBelow z                      a level is below 2^32
--     LevelBlank z                      level 0 is that of the blank mark, and of nothing else
--     LevelInjective a b                a level has one height
--     LevelLe a b, LevelLt a b          levels are in the order of the heights
--     LevelDifference a b               levels differ by what the heights differ by
--     ProminentLevels height key r      a prominence is a difference of levels
--     ProminentGreatest                 the greatest prominence, of 2147483647 over -2147483647
--     ProminentLeast                    the least, of 5 over 4
--     Claims                            all of these
-- `SFits w32 z` says that z is a signed 32-bit number, as every height is that the code holds. Assumes nothing.
use Rattle.std.specs.Prelude.{◌↔◌, ◌≡◌, ℕ, ◌-◌, ◌≤◌, ◌<◌, ℤ, pos, negsuc, ◌-ℤ◌, ◌≤ℤ◌, ◌<ℤ◌}
use Rattle.std.specs.Int.{w32}
use Rattle.std.proofs.Common.{SFits}
use Rattle.relief.specs.Heights.{BLANK, level_of}
use Rattle.scale.specs.Prominence.{Prominent}

-- ---- levels

abbrev pub LevelBelow : ℤ → Type 0
LevelBelow z = SFits w32 z → level_of z < 4294967296

-- "-2147483648 is the blank mark and no height [..]. Every other value is a legal height"
abbrev pub LevelBlank : ℤ → Type 0
LevelBlank z = SFits w32 z → (level_of z ≡ 0) ↔ (z ≡ BLANK)

-- So the contract of `height` allows one answer.
abbrev pub LevelInjective : ℤ → ℤ → Type 0
LevelInjective a b = SFits w32 a → SFits w32 b → level_of a ≡ level_of b → a ≡ b

abbrev pub LevelLe : ℤ → ℤ → Type 0
LevelLe a b = SFits w32 a → SFits w32 b → (a ≤ℤ b) ↔ (level_of a ≤ level_of b)

abbrev pub LevelLt : ℤ → ℤ → Type 0
LevelLt a b = SFits w32 a → SFits w32 b → (a <ℤ b) ↔ (level_of a < level_of b)

abbrev pub LevelDifference : ℤ → ℤ → Type 0
LevelDifference a b = SFits w32 a → SFits w32 b → b ≤ℤ a → pos (level_of a - level_of b) ≡ a -ℤ b

-- ---- prominence

-- So the contract of `prominence` allows one answer.
abbrev pub ProminentLevels : ℤ → ℤ → ℕ → Type 0
ProminentLevels height key r =
    SFits w32 height → SFits w32 key → Prominent height key r → r ≡ level_of height - level_of key

-- "1 to 4,294,967,294": what the contract of `prominence` says at both ends.
abbrev pub ProminentGreatest : Type 0
ProminentGreatest = (r : ℕ) → Prominent (pos 2147483647) (negsuc 2147483646) r → r ≡ 4294967294

abbrev pub ProminentLeast : Type 0
ProminentLeast = (r : ℕ) → Prominent (pos 5) (pos 4) r → r ≡ 1

-- ---- all of them

pub record Claims : Type 0 where
  pub level-below : (z : ℤ) → LevelBelow z
  pub level-blank-iff : (z : ℤ) → LevelBlank z
  pub level-injective : (a b : ℤ) → LevelInjective a b
  pub level-le-iff : (a b : ℤ) → LevelLe a b
  pub level-lt-iff : (a b : ℤ) → LevelLt a b
  pub level-difference : (a b : ℤ) → LevelDifference a b
  pub prominent-levels : (height key : ℤ) (r : ℕ) → ProminentLevels height key r
  pub prominent-greatest : ProminentGreatest
  pub prominent-least : ProminentLeast
