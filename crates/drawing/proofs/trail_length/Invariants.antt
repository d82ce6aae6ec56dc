-- `trail_length`, the walk back along the trail (`Counts`). The place j falls at each step.
use Rattle.drawing.specs.Inner.{Trailing}
use Rattle.drawing.proofs.Trails.{Counts}
use Rattle.drawing.proofs.trail_length.Given as goal

abbrev pub invariant-loop-j : goal.invariant-loop-j
invariant-loop-j l = (t : Trailing l.work l.n l.at) → Counts l.work l.n l.at t.row l.count l.j

abbrev pub decreases-loop-j : goal.decreases-loop-j
decreases-loop-j l = l.j
