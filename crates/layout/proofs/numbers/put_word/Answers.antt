-- A number stored lays its four bytes over (`over_word`).
use Rattle.std.proofs.Common.{arith}
use Rattle.layout.proofs.Over.{over_word}
use Rattle.layout.proofs.numbers.put_word.Goals as goal

pub returns : goal.returns
returns c =
    over_word c.args.room.now c.put.new.s (λ k. omega (arith, c.slice_known-1.given k))
    (λ k. omega (arith, c.slice_known-2-1.given k)) c.args.i c.args.v (omega arith) c.put.ensures
