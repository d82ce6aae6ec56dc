-- The first c words are the levels of the first c heights, and nothing behind them changed.
use Rattle.heights.proofs.Loads.{Loads}
use Rattle.heights.proofs.load_from.Given as goal

abbrev pub invariant-loop-c : goal.invariant-loop-c
invariant-loop-c g l = Loads l.fn.work l.work (g.H.Heights.heights l.heights) l.n l.c
