-- The first c places of the order quarter hold their cells of before and the marks, and all else is as it was.
use Rattle.choice.proofs.Marks.{Marks}
use Rattle.choice.proofs.mark.Given as goal

abbrev pub invariant-loop-c : goal.invariant-loop-c
invariant-loop-c l = Marks l.fn.work l.work l.n l.old l.c
