-- The listed peaks from c on stand in the rows of their passes, and all else is as it was.
use Rattle.kin.specs.Inner.{Hung}
use Rattle.kin.proofs.hang_peaks.Given as goal

abbrev pub invariant-loop-c : goal.invariant-loop-c
invariant-loop-c l = Hung l.fn.work l.work l.n l.threshold l.c
