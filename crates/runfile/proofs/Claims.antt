-- The claims hold. The index of the first unsound record is one number, so each promise allows one answer, and the
-- answer fixes what is lent. A written file holds what was written (`back-heights`, `back-records`), so no test of the
-- reader refuses it. A file that is read is the file of what it holds (`read-file`), and no test of the writer refuses
-- that.
-- Assumes nothing.
use Rattle.record.specs.declared.Refusal.{Refusal}
use Rattle.std.specs.Prelude.{Result, Ok}
use mathlib.Core.List.{List, [], ◌∷◌, ◌++◌, map}
use mathlib.Core.Path.{◌≡◌, sym, ap, ◌∙◌}
use Prim.Native.Nat.{ℕ, ◌+◌, ◌*◌, ◌/◌, ◌%◌, ◌≤◌, ◌<◌}
use native.Mathlib.Nat.{mul-mod_right}
use native.Mathlib.Omega.{arith}
use lib.IntN.{ℤ}
use lib.ListN.{length, get_or, take, drop}
use lib.Seq.{take_at}
use Rattle.relief.specs.Plane.{plane_of, touch_of}
use Rattle.relief.proofs.Shapes.{touch-symmetric}
use Rattle.record.specs.declared.Peak.{Peak}
use Rattle.record.specs.Records.{record_of}
use Rattle.record.specs.Refusals.{granted, told_by}
use Rattle.record.proofs.Tests.{told-by}
use Rattle.sound.proofs.Claims.{claims as sound-claims}
use Rattle.layout.specs.Layout.{total_of, file_of, rows_in, columns_in, peaks_in, cells_in, heights_in, records_from}
use Rattle.sound.specs.Sound.{FirstUnsound, GridOf, SoundRow}
use Rattle.layout.specs.declared.ReadBack.{ReadBack}
use Rattle.layout.specs.Promises.{run_of, write_tests, room_after, lent_after}
use Rattle.layout.proofs.Files.{file-length, file-rows, file-columns, file-peaks, file-offset, file-offset-2}
use Rattle.layout.proofs.Files.{file-total, back-cells, back-heights, back-records}
use Rattle.layout.proofs.Rows.{heights-length, peaks-length}
use Rattle.reader.proofs.ReadAnswer.{Readable, readable-good, read-readable, read-rows, read-cells, read-peaks}
use Rattle.reader.proofs.ReadAnswer.{read-differ, answers-unique}
use Rattle.reader.proofs.ReadFile.{read-file}
use Rattle.sound.proofs.Scans.{first-unique, first-all, first-few}
use Rattle.writer.proofs.WriteAnswer.{Gridded, written-bytes, written-differ}
use Rattle.runfile.specs.Promises.{Writes, Reads}
use Rattle.runfile.specs.Claims.{WriteUnique, ReadUnique, SameRun, ReadsBackWrites, ListsReadBack}
use Rattle.runfile.specs.Claims.{WritesBackReads, Claims}

-- ---- one answer

write-unique : WriteUnique
write-unique rows hs ps s r r' a a' w w' =
    let total = total_of (length hs) (length ps) in
    let same =
    written-differ a a'
    (w.answered
    ∙ ap (λ (u : ℕ). told_by (write_tests rows (length hs) (length ps) u (length s)) (granted (total ∷ [])))
    (first-unique w.first w'.first)
    ∙ sym w'.answered) in (
      same,
      w.room ∙ ap (λ (b : Result ℕ Refusal). room_after b (file_of rows hs ps ++ drop total s) s) same ∙ sym w'.room,
    )

read-unique : ReadUnique
read-unique f hs h h' ps t t' a a' r r' =
    let same = answers-unique r.answer r'.answer in
    let heights = heights_in f (cells_in f) ++ drop (cells_in f) hs in
    let table = records_from f (cells_in f) (peaks_in f) ++ drop (peaks_in f) ps in (
      same,
      (
        r.heights ∙ ap (λ (b : Result ReadBack Refusal). lent_after b heights hs) same ∙ sym r'.heights,
        r.table ∙ ap (λ (b : Result ReadBack Refusal). lent_after b table ps) same ∙ sym r'.table,
      ),
    )

-- ---- written and read back

module _ {rows : ℕ} {hs s s' : List ℤ} (ps t t' : List Peak) (grid : GridOf rows hs) (all : SoundRow hs ps)
    (a : Result ReadBack Refusal) (room : length hs ≤ length s) (table : length ps ≤ length t) where
  file-read : Reads (file_of rows hs ps) s s' t t' a → SameRun rows hs s s' ps t t' a
  file-read r =
      let f = file_of rows hs ps in
      let cells = back-cells ps grid all in
      let peaks = file-peaks rows hs ps in
      let heights : heights_in f (cells_in f) ≡ hs = ap (heights_in f) cells ∙ back-heights ps grid all in
      let records : records_from f (cells_in f) (peaks_in f) ≡ ps =
      rw (cells, peaks) (back-records ps grid all) in
      let first : FirstUnsound hs ps r.answer.unsound = rw (heights, records) at r.answer.first in
      let few = first-few first in
      let last = first-all first all in
      let rows_are = file-rows rows hs ps in
      let can : Readable f (length s) (length t) r.answer.unsound = record {
        whole = record {
          long = omega (arith, file-length rows hs ps);
          some = λ e. omega (arith, grid.some);
          few = omega (arith, grid.few);
          fit = omega (arith, grid.cells);
          counted = record {
            few = omega arith;
            heights = file-offset rows hs ps;
            records = file-offset-2 rows hs ps ∙ omega arith;
            total = file-total rows hs ps ∙ omega arith;
          };
          total = file-length rows hs ps ∙ sym (file-total rows hs ps);
        };
        sound = omega arith;
        room = omega arith;
        table-room = omega arith;
      } in
      let answer : a ≡ run_of rows (length hs / rows) (length ps) =
      read-differ a (run_of (rows_in f) (columns_in f) (peaks_in f))
      (r.answer.answered ∙ told-by _ (readable-good f (length s) (length t) r.answer.unsound can))
      ∙ rw (rows_are, file-columns rows hs ps, peaks) in
      record {
        answer = answer;
        heights = r.heights ∙ rw (answer, heights, cells);
        table = r.table ∙ rw (answer, records, peaks);
      }

gridded : {rows : ℕ} {hs : List ℤ} → GridOf rows hs → Gridded rows (length hs)
gridded grid = record {
  some = λ e. omega (arith, grid.some);
  few = grid.few;
  whole = grid.whole;
  fit = grid.cells;
}

reads-back-writes : ReadsBackWrites
reads-back-writes rows hs s s' ps t t' room room' w a grid all long room-s room-t writes reads =
    let u = writes.unsound in
    let last = first-all writes.first all in
    let bytes : w ≡ Ok (total_of (length hs) (length ps)) =
    written-differ w (Ok (total_of (length hs) (length ps)))
    (writes.answered
    ∙ sym (written-bytes rows (length hs) (length ps) u (length room) (gridded grid) (omega arith) long)) in
    let file : take (total_of (length hs) (length ps)) room' ≡ file_of rows hs ps =
    ap (take (total_of (length hs) (length ps))) (writes.room ∙ rw bytes)
    ∙ take_at (file_of rows hs ps) (drop (total_of (length hs) (length ps)) room) (total_of (length hs) (length ps))
    (file-length rows hs ps) in
    (bytes, file-read ps t t' grid all a room-s room-t (rw file at reads))

lists-read-back : ListsReadBack
lists-read-back rows hs s s' T l t t' room room' w a grid listed =
    reads-back-writes rows hs s s' (map record_of l) t t' room room' w a grid
    (sound-claims.list-sound (touch_of (plane_of rows)) (touch-symmetric (plane_of rows)) hs grid.fit
    (omega (arith, grid.cells)) T l listed)

-- ---- read and written back

module _ {f : List ℕ} {heights table u : ℕ} (bytes : (k : ℕ) → get_or f k 0 < 256) (can : Readable f heights table u)
    (first : FirstUnsound (heights_in f (cells_in f)) (records_from f (cells_in f) (peaks_in f)) u) where
  file-written :
      (room room' : List ℕ) (w : Result ℕ Refusal) → length f ≤ length room →
      Writes (rows_in f) (heights_in f (cells_in f)) (records_from f (cells_in f) (peaks_in f)) room room' w →
      (w ≡ Ok (length f)) × (room' ≡ f ++ drop (length f) room)
  file-written room room' w long writes =
      let hs = heights_in f (cells_in f) in
      let ps = records_from f (cells_in f) (peaks_in f) in
      let cells = heights-length f 6 (cells_in f) in
      let peaks = peaks-length f (6 + cells_in f) (peaks_in f) in
      let same = first-unique writes.first first in
      let total : total_of (length hs) (length ps) ≡ length f =
      omega (arith, can.whole.total, can.whole.counted.total) in
      let whole = ap (λ (n : ℕ). n % rows_in f) cells ∙ mul-mod_right (rows_in f) (columns_in f) in
      let answer : w ≡ Ok (length f) =
      written-differ w (Ok (total_of (length hs) (length ps)))
      (writes.answered
      ∙ sym (written-bytes (rows_in f) (length hs) (length ps) writes.unsound (length room)
      (record { some = can.whole.some; few = can.whole.few; whole = whole; fit = omega (arith, can.whole.fit) })
      (omega (arith, can.sound)) (omega arith)))
      ∙ ap Ok total in
      (answer, writes.room ∙ rw (answer, read-file f bytes can, total))

writes-back-reads : WritesBackReads
writes-back-reads f s s' t t' rows columns peaks room room' w bytes long reads writes =
    let j = reads.answer in
    let can = read-readable f (length s) (length t) j.unsound j.answered in
    let hs = heights_in f (cells_in f) in
    let ps = records_from f (cells_in f) (peaks_in f) in
    let cells : rows * columns ≡ cells_in f = read-cells f (length s) (length t) j.unsound j.answered in
    let count : peaks ≡ peaks_in f = read-peaks f (length s) (length t) j.unsound j.answered in
    let rows_are : rows ≡ rows_in f = read-rows f (length s) (length t) j.unsound j.answered in
    let heights : take (rows * columns) s' ≡ hs =
    ap (take (rows * columns)) reads.heights
    ∙ take_at hs (drop (cells_in f) s) (rows * columns) (heights-length f 6 (cells_in f) ∙ sym cells) in
    let records : take peaks t' ≡ ps =
    ap (take peaks) reads.table
    ∙ take_at ps (drop (peaks_in f) t) peaks (peaks-length f (6 + cells_in f) (peaks_in f) ∙ sym count) in
    file-written bytes can j.first room room' w long (rw (heights, records, rows_are) at writes)

pub claims : Claims
claims = record {
  write-unique = write-unique;
  read-unique = read-unique;
  reads-back-writes = reads-back-writes;
  lists-read-back = lists-read-back;
  writes-back-reads = writes-back-reads;
}
