-- `put_cells`, the walk through the cells: those below c that are reached stand at the front of the row (`Puts`).
use Rattle.flood.specs.Flood.{reached_in}
use Rattle.drawing.proofs.Islands.{Puts}
use Rattle.drawing.proofs.put_cells.Given as goal

abbrev pub invariant-loop-c : goal.invariant-loop-c
invariant-loop-c l = Puts (reached_in l.work l.n) l.initial.row l.row l.count l.c
