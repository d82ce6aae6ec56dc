-- `mark`, every closed cell marked: a turn marks one place, and what is read to do so has not changed (`marks-step`).
-- Assumes nothing.
use Rattle.std.proofs.Common.{arith, ◌+◌, subst}
use Rattle.words.specs.Words.{Stored}
use Rattle.choice.proofs.Marks.{cell-fits, marked-is, marks-step}
use Rattle.choice.proofs.mark.Goals as goal

pub marked-requires : goal.marked-requires
marked-requires c = omega (arith, cell-fits c.get.result, c.cell_in-cell.ensures)

pub loop-c-preserved : goal.loop-c-preserved
loop-c-preserved c =
    let s = c.loop-c.work in
    let a = c.args in
    let number =
    marked-is s a.n a.old c.loop-c.c c.closed_in-closed.ensures c.get.ensures c.cell_in-cell.ensures c.marked.ensures in
    marks-step c.requires c.loop-c.invariant c.loop-c-test.true
    (subst (Stored s c.put.new.s (a.n + c.loop-c.c)) number c.put.ensures)
