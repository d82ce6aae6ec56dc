-- `trail_length`: one step back along the trail, and its start. Assumes nothing.
use Rattle.std.proofs.Common.{arith}
use Rattle.drawing.proofs.Trails.{counts-place, counts-few, counts-falls, counts_step, counts-done}
use Rattle.drawing.proofs.trail_length.Goals as goal

pub came_from-j-requires : goal.came_from-j-requires
came_from-j-requires c =
    let t = c.requires in
    let l = counts-place t (c.loop-j.invariant t) in
    (t.area, omega (arith, t.few), t.cells c.loop-j.j l)

pub overflow_add-count : goal.overflow_add-count
overflow_add-count c =
    let t = c.requires in
    let l = counts-few t (c.loop-j.invariant t) in
    omega (arith, t.few, t.area.few)

pub loop-j-smaller : goal.loop-j-smaller
loop-j-smaller c =
    let t = c.requires in
    omega (arith, counts-falls t (c.loop-j.invariant t) c.loop-j-test.true, c.came_from-j.ensures)

pub loop-j-preserved : goal.loop-j-preserved
loop-j-preserved c t = counts_step t (c.loop-j.invariant t) c.loop-j-test.true c.came_from-j.ensures

pub returns : goal.returns
returns c = let t = c.requires in counts-done t (c.loop-j.invariant t) c.loop-j-test.false
