-- `flood`: the cells that may be reached are opened, and the start is put into the queue (`begun`). The queue has at
-- most n cells, and once each had its turn the flood is done. Assumes nothing.
use Rattle.std.proofs.Common.{arith}
use Rattle.flood.proofs.Floods.{begun, floods-few, floods-done}
use Rattle.flood.proofs.flood.Goals as goal

pub loop-head-smaller : goal.loop-head-smaller
loop-head-smaller c =
    let f = floods-few c.loop-head.invariant in
    let l = c.loop-head-test.true in
    omega arith

pub returns : goal.returns
returns c =
    floods-done (begun c.requires c.sieve.ensures c.put.ensures c.put-2.ensures c.narrow.ensures) c.loop-head.invariant
    c.requires.land c.loop-head-test.false
