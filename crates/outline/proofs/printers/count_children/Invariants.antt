-- The count and the peaks of the passes ahead are all peaks under q.
use Rattle.outline.proofs.Children.{Counting}
use Rattle.outline.proofs.printers.count_children.Given as goal

abbrev pub invariant-loop-x : goal.invariant-loop-x
invariant-loop-x l = Counting l.work l.n l.q l.count l.x-iterator
