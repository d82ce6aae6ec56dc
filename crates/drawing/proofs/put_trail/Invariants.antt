-- `put_trail`, the walk back along the trail: the cells from the i-th on are put (`Lays`).
use Rattle.drawing.specs.Inner.{Trailing}
use Rattle.drawing.proofs.Trails.{Lays}
use Rattle.drawing.proofs.put_trail.Given as goal

abbrev pub invariant-loop-i : goal.invariant-loop-i
invariant-loop-i l = (t : Trailing l.work l.n l.at) → Lays l.work l.n l.at t.row l.initial.row l.row l.j l.i
