-- Where the answer is a number of bytes, the room has them, and header and heights are laid one behind the other.
use Rattle.std.proofs.Common.{ℕ, ℤ, List, ◌++◌, ◌≡◌, ◌≤◌, ◌∙◌, map, length, sym, ap, arith}
use Rattle.sound.specs.Inner.{index_of}
use Rattle.layout.specs.Layout.{bits_of, bytes_of, header_of}
use Rattle.words.specs.Words.{over}
use Rattle.words.proofs.Over.{over-over}
use Rattle.layout.proofs.Rows.{bytes-length, bytes-append}
use Rattle.writer.proofs.WriteAnswer.{few-records, written-writable}
use Rattle.writer.proofs.put_grid.Goals as goal

laid_both :
    (s t u : List ℕ) (rows n : ℕ) (hs : List ℤ) → 24 ≤ length s →
    t ≡ over s 0 (bytes_of (header_of rows (length hs) n)) → u ≡ over t 24 (bytes_of (map bits_of hs)) →
    u ≡ over s 0 (bytes_of (header_of rows (length hs) n ++ map bits_of hs))
unfolding header_of
laid_both s t u rows n hs h e e' =
    let header = header_of rows (length hs) n in
    let len : length (bytes_of header) ≡ 24 = bytes-length header in
    e' ∙ ap (λ (l : List ℕ). over l 24 (bytes_of (map bits_of hs))) e
    ∙ over-over s 0 (bytes_of header) (omega arith) 24 (bytes_of (map bits_of hs)) (omega arith)
    ∙ ap (over s 0) (sym (bytes-append header (map bits_of hs)))

pub put_header-requires : goal.put_header-requires
put_header-requires c =
    let w = written-writable c.args.rows (length c.args.heights.now) c.args.n (index_of c.args.unsound c.args.n)
    (length c.args.room.now) _ c.in_ok-total.ensures in
    let few = few-records (length c.args.heights.now) c.args.n c.args.unsound c.requires w.sound in
    (w.long, (omega (arith, few, w.grid.fit), omega (arith, w.grid.some)))

pub put_heights-requires : goal.put_heights-requires
put_heights-requires c =
    let w = written-writable c.args.rows (length c.args.heights.now) c.args.n (index_of c.args.unsound c.args.n)
    (length c.args.room.now) _ c.in_ok-total.ensures in
    omega (arith, w.long, c.put_header.auto.room)

pub returns : goal.returns
returns c =
    let w = written-writable c.args.rows (length c.args.heights.now) c.args.n (index_of c.args.unsound c.args.n)
    (length c.args.room.now) _ c.in_ok-total.ensures in
    record {
      answered = c.in_ok-total.ensures;
      room =
          laid_both c.args.room.now c.put_header.new.room c.put_heights.new.room c.args.rows c.args.n c.args.heights.now
          (omega (arith, w.long)) c.put_header.ensures c.put_heights.ensures;
    }
