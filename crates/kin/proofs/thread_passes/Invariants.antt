-- The passes at the places from i on stand in the rows of their upper peaks, and all else is as it was.
use Rattle.kin.specs.Inner.{Threaded}
use Rattle.kin.proofs.thread_passes.Given as goal

abbrev pub invariant-loop-i : goal.invariant-loop-i
invariant-loop-i l = Threaded l.fn.work l.work l.n l.m l.i
