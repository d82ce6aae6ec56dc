-- `look`: the cell whose turn it is has a spot in the plane, and each of its places is looked at. Assumes nothing.
use Rattle.std.proofs.Common.{arith, ◌≡◌, ◌∙◌}
use Rattle.area.specs.Area.{order_in}
use Rattle.flood.proofs.Spreading.{spreading-few}
use Rattle.flood.proofs.Reaches.{look-step, look-done}
use Rattle.flood.proofs.look.Goals as goal
use Rattle.flood.proofs.look.Goals.{After-new-spot}

pub queued-requires : goal.queued-requires
queued-requires c =
    let f = spreading-few c.requires.spreading in
    (c.requires.area, omega (arith, c.requires.more))

-- the cell of the spot is the one whose turn it is
at_head : (c : After-new-spot) → c.new-spot.result.x ≡ order_in c.args.work.now c.args.grid.n c.args.head
at_head c = c.new-spot.ensures.2 ∙ c.queued.ensures

pub reach-last-requires : goal.reach-last-requires
reach-last-requires c =
    let f = spreading-few c.loop-i.invariant.spreading in
    let g = spreading-few c.requires.spreading in
    rw c.new-spot.ensures.1 (record {
      area = record {
        few = c.requires.area.few;
        room = omega (arith, c.requires.area.room, c.loop-i.invariant.onward.len);
      };
      from = omega (arith, c.requires.more);
      room = f;
      which = c.loop-i-test.true;
    })

pub loop-i-preserved : goal.loop-i-preserved
loop-i-preserved c =
    let (rows, limit, x) = c.new-spot.ensures in
    look-step c.args.grid.rows_some (at_head (goal.at.loop-i-preserved c).After-new-spot) c.requires.more
    c.loop-i.invariant c.loop-i-test.true (rw (rows, limit) at c.reach-last.ensures)

pub returns : goal.returns
returns c =
    look-done c.args.grid.rows_some (at_head (goal.at.returns c).After-new-spot) c.requires.more c.loop-i.invariant
    (omega arith)
