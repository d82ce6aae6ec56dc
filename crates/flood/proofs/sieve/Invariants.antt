-- `sieve`, the walk through the cells: the invariant is its contract, for the cells below c.
use Rattle.flood.specs.Inner.{Sieved}
use Rattle.flood.proofs.sieve.Given as goal

abbrev pub invariant-loop-c : goal.invariant-loop-c
invariant-loop-c l = Sieved l.initial.work l.work l.n l.low l.c
