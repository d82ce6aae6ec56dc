-- The first `i` records stand in the row, and behind them what it held.
use Rattle.std.proofs.Common.{◌≡◌, take}
use Rattle.table.proofs.Grows.{filled}
use Rattle.table.proofs.rows.take.Given as goal

abbrev pub invariant-loop-i : goal.invariant-loop-i
invariant-loop-i g l = l.table ≡ filled (λ k. take k (g.R.Records.records l.records)) l.fn.table l.i
