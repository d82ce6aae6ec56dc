-- What is claimed of sound records beyond the contracts.
--     ListSound     the records of a list are sound
--     Claims        all of these
-- Assumes nothing.
use Rattle.std.specs.Prelude.{List, map, ℕ, ◌≤◌, ◌<◌, ℤ, length, get_or}
use Rattle.std.specs.Int.{w32}
use Rattle.std.proofs.Common.{SFits}
use Rattle.relief.specs.Heights.{BLANK, levels}
use Rattle.relief.specs.Peaks.{Entry, ListOf}
use Rattle.record.specs.Records.{record_of}
use Rattle.sound.specs.Sound.{SoundRow}

-- Over any symmetric way of touching. With more cells than 2^32 - 1 a pass cell could be the mark for a missing one.
abbrev pub ListSound : Type 1
ListSound =
    (touch : ℕ → ℕ → Type 0) → ((a b : ℕ) → touch a b → touch b a) →
    (heights : List ℤ) → ((i : ℕ) → i < length heights → SFits w32 (get_or heights i BLANK)) →
    length heights ≤ 4294967295 →
    (T : ℕ) (l : List Entry) → ListOf touch (levels heights) T l → SoundRow heights (map record_of l)

pub record Claims : Type 1 where
  pub list-sound : ListSound
