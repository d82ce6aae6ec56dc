-- `words::put` meets its contract: the bytes of the number are laid over those of its place (`over_four`), which stores
-- it (`store_word`). Assumes nothing.
use Rattle.std.proofs.Common.{arith, ◌*◌, get_or}
use Rattle.words.proofs.Laws.{store_word}
use Rattle.words.proofs.Over.{over_four}
use Rattle.words.proofs.put.Goals as goal

pub returns : goal.returns
returns c =
    let s = c.args.s.now in
    let byte = get_or c.to_le_bytes.result in
    rw (over_four s (4 * c.args.i) (byte 0 0) (byte 1 0) (byte 2 0) (byte 3 0) c.requires, c.to_le_bytes.ensures)
    (store_word s c.args.i c.args.v c.requires (omega arith))
