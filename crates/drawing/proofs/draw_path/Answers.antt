-- `draw_path`: the trail to the best cell that is reached at k is the first way to it. Assumes nothing.
use Rattle.std.proofs.Common.{arith}
use Rattle.drawing.proofs.Drawn.{flooded-trailing, flooded-length, drawn-path}
use Rattle.drawing.proofs.draw_path.Goals as goal

pub trail_length-len-requires : goal.trail_length-len-requires
trail_length-len-requires c = flooded-trailing c.requires c.flood-count.ensures c.best-at.ensures.place

pub put_trail-requires : goal.put_trail-requires
put_trail-requires c =
    let d = c.requires in
    let f = c.flood-count.ensures in
    let l = c.best-at.ensures.place in
    let told = c.trail_length-len.ensures in
    (flooded-trailing d f l, flooded-length d f l told, d.room, told)

pub returns : goal.returns
returns c =
    drawn-path c.requires (omega (arith, c.if-k-eq0.false)) c.flood-count.ensures c.best-at.ensures c.put_trail.ensures
