-- `put_cells`: a cell that is reached is put behind those of the row. Assumes nothing.
use Rattle.std.proofs.Common.{arith, sym, ◌∙◌}
use Rattle.flood.specs.Flood.{reached_in}
use Rattle.drawing.proofs.Islands.{puts-start, puts-left, puts-put, puts-done}
use Rattle.drawing.proofs.put_cells.Goals as goal
use Rattle.drawing.proofs.put_cells.Goals.{then-is_reached, else-is_reached}

pub loop-c-init : goal.loop-c-init
loop-c-init c = puts-start (reached_in c.args.work.now c.args.n) c.args.row.now

pub loop-c-preserved : goal.loop-c-preserved
loop-c-preserved c =
    let told = sym c.is_reached.ensures in
    elim c.if-is_reached.branch [
      | then-is_reached w ↦
          rw (w.row-is, w.count-is, w.narrow.ensures)
          (puts-put c.loop-c.invariant (told ∙ w.if-is_reached.true) (omega (arith, c.requires.1)))
      | else-is_reached w ↦ rw (w.row-is, w.count-is) (puts-left c.loop-c.invariant (told ∙ w.if-is_reached.false))
    ]

pub returns : goal.returns
returns c = puts-done c.loop-c.invariant (omega arith)
