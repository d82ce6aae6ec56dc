-- Of the numbers below n no more than n agree.
use Rattle.std.proofs.Common.{◌≤◌}
use Rattle.trials.proofs.count.Given as goal

abbrev pub invariant-loop-n : goal.invariant-loop-n
invariant-loop-n g l = l.agreed ≤ l.n-counter
