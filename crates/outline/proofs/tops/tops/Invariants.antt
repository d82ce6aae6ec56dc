-- What is put is the text of the tops among the first cells.
use Rattle.outline.specs.Inner.{tops_print}
use Rattle.outline.proofs.tops.tops.Given as goal

abbrev pub invariant-loop-c : goal.invariant-loop-c
invariant-loop-c g l = g.S.Sink.put_gives l.fn.sink (tops_print l.work l.n l.left l.c) l.sink
