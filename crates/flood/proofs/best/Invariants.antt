-- `best`, the walk through the queue: the invariant is its contract, for the places before i.
use Rattle.flood.specs.Flood.{BestPlace}
use Rattle.flood.proofs.best.Given as goal

abbrev pub invariant-loop-i : goal.invariant-loop-i
invariant-loop-i l = BestPlace l.work l.n l.i l.top
