-- What the two calls promise: sections "Run file" and "What comes back" of document 01.
--     Writes rows heights records s s' a    a is the answer of `write`, and s' what the room s holds at the end
--     Reads f hs hs' ps ps' a               a is the answer of `read`, hs' and ps' what the lent heights hs and table
--                                           ps hold at the end
-- Assumes nothing.
use Rattle.record.specs.declared.Refusal.{Refusal}
use Rattle.std.specs.Prelude.{Result, List, [], ◌∷◌, ◌++◌, ◌≡◌, ℕ, ℤ, length, drop}
use Rattle.record.specs.declared.Peak.{Peak}
use Rattle.record.specs.Refusals.{granted, told_by}
use Rattle.sound.specs.Sound.{FirstUnsound}
use Rattle.layout.specs.declared.ReadBack.{ReadBack}
use Rattle.layout.specs.Layout.{total_of, file_of, peaks_in, cells_in, heights_in, records_from}
use Rattle.layout.specs.Promises.{written_told, write_tests, room_after, ReadAnswers, lent_after}

-- The answer tells the first refusal that applies, or the bytes of the file. "On success [..] bytes and other lent
-- numbers beyond those counted stay as they were."
pub record Writes (rows : ℕ) (heights : List ℤ) (records : List Peak) (s s' : List ℕ) (a : Result ℕ Refusal) :
    Type 0 where
  pub unsound : ℕ
  pub first : FirstUnsound heights records unsound
  pub answered :
      written_told a
      ≡ told_by (write_tests rows (length heights) (length records) unsound (length s))
      (granted (total_of (length heights) (length records) ∷ []))
  pub room : s' ≡ room_after a (file_of rows heights records ++ drop (total_of (length heights) (length records)) s) s

-- "Reading hands back rows, columns and n and fills a lent row of heights and a lent peak table." "On success table
-- entries, cells [..] beyond those counted stay as they were."
pub record Reads (f : List ℕ) (hs hs' : List ℤ) (ps ps' : List Peak) (a : Result ReadBack Refusal) : Type 0 where
  pub answer : ReadAnswers f (length hs) (length ps) a
  pub heights : hs' ≡ lent_after a (heights_in f (cells_in f) ++ drop (cells_in f) hs) hs
  pub table : ps' ≡ lent_after a (records_from f (cells_in f) (peaks_in f) ++ drop (peaks_in f) ps) ps
