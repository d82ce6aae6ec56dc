-- `flood`: each cell of the queue has its turn (`Floods`). What falls is n - head: the queue has at most n cells.
use Rattle.std.proofs.Common.{◌-◌}
use Rattle.relief.specs.Plane.{plane_of, touch_of}
use Rattle.flood.proofs.Floods.{Floods}
use Rattle.flood.proofs.flood.Given as goal

abbrev pub invariant-loop-head : goal.invariant-loop-head
invariant-loop-head l =
    Floods (touch_of (plane_of l.grid.rows)) l.initial.work l.work l.grid.n l.start l.low l.head l.tail

abbrev pub decreases-loop-head : goal.decreases-loop-head
decreases-loop-head l = l.grid.n - l.head
