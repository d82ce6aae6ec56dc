-- `look`, the eight places around the cell: the invariant is what is known once the first i were looked at (`Turned`).
use Rattle.relief.specs.Plane.{plane_of, touch_of}
use Rattle.flood.proofs.Reaches.{Turned, SeenTo}
use Rattle.flood.proofs.look.Given as goal

abbrev pub invariant-loop-i : goal.invariant-loop-i
invariant-loop-i l =
    Turned (touch_of (plane_of l.fn.grid.rows)) l.initial.work l.work l.fn.grid.n l.head l.tail l.last
    (SeenTo l.fn.grid.rows l.fn.grid.n l.spot.x l.i)
