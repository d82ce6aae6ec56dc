-- The chosen cells below c stand at the front of the order quarter, and all else is as it was.
use Rattle.choice.specs.Inner.{chosen_in, Collected}
use Rattle.choice.proofs.collect.Given as goal

abbrev pub invariant-loop-c : goal.invariant-loop-c
invariant-loop-c l = Collected l.fn.work l.work l.n l.c (chosen_in l.fn.work l.n l.threshold l.part) l.count
