-- What is claimed of the run file beyond the contracts.
--     WriteUnique            the promise of `write` allows one answer and one room at the end
--     ReadUnique             the promise of `read` allows one answer, one row of heights and one table at the end
--     ReadsBackWrites        what was written is read back
--     ListsReadBack          so a grid with its list is read back
--     WritesBackReads        what was read is written back
--     Claims                 all of these
-- Assumes nothing.
use Rattle.record.specs.declared.Refusal.{Refusal}
use Rattle.std.specs.Prelude.{Result, Ok, List, ◌++◌, map, ◌≡◌, ℕ, ◌*◌, ◌/◌, ◌≤◌, ◌<◌, ℤ, length, get_or, take, drop}
use Rattle.relief.specs.Heights.{levels}
use Rattle.relief.specs.Peaks.{Entry, ListOf}
use Rattle.relief.specs.Plane.{plane_of, touch_of}
use Rattle.record.specs.declared.Peak.{Peak}
use Rattle.record.specs.Records.{record_of}
use Rattle.sound.specs.Sound.{GridOf, SoundRow}
use Rattle.layout.specs.Layout.{total_of}
use Rattle.layout.specs.declared.ReadBack.{ReadBack}
use Rattle.layout.specs.Promises.{run_of}
use Rattle.runfile.specs.Promises.{Writes, Reads}

-- ---- one answer

abbrev pub WriteUnique : Type 0
WriteUnique =
    (rows : ℕ) (heights : List ℤ) (records : List Peak) (room r r' : List ℕ) (a a' : Result ℕ Refusal) →
    Writes rows heights records room r a → Writes rows heights records room r' a' → (a ≡ a') × (r ≡ r')

abbrev pub ReadUnique : Type 0
ReadUnique =
    (f : List ℕ) (heights h h' : List ℤ) (table t t' : List Peak) (a a' : Result ReadBack Refusal) →
    Reads f heights h table t a → Reads f heights h' table t' a' → (a ≡ a') × ((h ≡ h') × (t ≡ t'))

-- ---- there and back

-- What is read is the run: its counts, its heights hs in the lent row s, its records ps in the lent table t.
pub record SameRun (rows : ℕ) (hs s s' : List ℤ) (ps t t' : List Peak) (a : Result ReadBack Refusal) : Type 0 where
  pub answer : a ≡ run_of rows (length hs / rows) (length ps)
  pub heights : s' ≡ hs ++ drop (length hs) s
  pub table : t' ≡ ps ++ drop (length ps) t

-- A grid with a row of sound records is written into any room that is long enough; what then stands there is read, with
-- room enough, as the same rows, columns, heights and records.
abbrev pub ReadsBackWrites : Type 0
ReadsBackWrites =
    (rows : ℕ) (hs s s' : List ℤ) (ps t t' : List Peak) (room room' : List ℕ) (w : Result ℕ Refusal)
    (a : Result ReadBack Refusal) →
    GridOf rows hs → SoundRow hs ps → total_of (length hs) (length ps) ≤ length room →
    length hs ≤ length s → length ps ≤ length t →
    Writes rows hs ps room room' w → Reads (take (total_of (length hs) (length ps)) room') s s' t t' a →
    (w ≡ Ok (total_of (length hs) (length ps))) × SameRun rows hs s s' ps t t' a

-- So it is with the list of a grid: its records are sound (`ListSound` of `sound`).
abbrev pub ListsReadBack : Type 0
ListsReadBack =
    (rows : ℕ) (hs s s' : List ℤ) (T : ℕ) (l : List Entry) (t t' : List Peak) (room room' : List ℕ)
    (w : Result ℕ Refusal) (a : Result ReadBack Refusal) →
    GridOf rows hs → ListOf (touch_of (plane_of rows)) (levels hs) T l →
    let ps = map record_of l in
    total_of (length hs) (length ps) ≤ length room → length hs ≤ length s → length ps ≤ length t →
    Writes rows hs ps room room' w → Reads (take (total_of (length hs) (length ps)) room') s s' t t' a →
    (w ≡ Ok (total_of (length hs) (length ps))) × SameRun rows hs s s' ps t t' a

-- A file that is read is written back, byte for byte, from what it gave.
abbrev pub WritesBackReads : Type 0
WritesBackReads =
    (f : List ℕ) (s s' : List ℤ) (t t' : List Peak) (rows columns peaks : ℕ) (room room' : List ℕ)
    (w : Result ℕ Refusal) →
    ((i : ℕ) → get_or f i 0 < 256) → length f ≤ length room →
    Reads f s s' t t' (run_of rows columns peaks) →
    Writes rows (take (rows * columns) s') (take peaks t') room room' w →
    (w ≡ Ok (length f)) × (room' ≡ f ++ drop (length f) room)

-- ---- all of them

pub record Claims : Type 0 where
  pub write-unique : WriteUnique
  pub read-unique : ReadUnique
  pub reads-back-writes : ReadsBackWrites
  pub lists-read-back : ListsReadBack
  pub writes-back-reads : WritesBackReads
