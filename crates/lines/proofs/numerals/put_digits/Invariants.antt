-- The digits of the number are those of the rest and some behind them, which are laid at their places.
use Rattle.lines.proofs.Digits.{Digits}
use Rattle.lines.proofs.numerals.put_digits.Given as goal

abbrev pub invariant-loop-rest : goal.invariant-loop-rest
invariant-loop-rest l = Digits l.fn.text l.at l.v l.text l.place l.rest

abbrev pub decreases-loop-rest : goal.decreases-loop-rest
decreases-loop-rest l = l.rest
