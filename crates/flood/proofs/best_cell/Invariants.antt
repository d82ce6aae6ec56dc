-- `best_cell`, the walk through the cells: the invariant is its contract, for the cells below c.
use Rattle.flood.specs.Flood.{BestCell}
use Rattle.flood.proofs.best_cell.Given as goal

abbrev pub invariant-loop-c : goal.invariant-loop-c
invariant-loop-c l = BestCell l.work l.n l.c l.top
