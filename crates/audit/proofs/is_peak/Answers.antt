-- `is_peak`: what is no cell, or blank, is no peak's; of another cell the flood at its own height tells. Assumes
-- nothing.
use Rattle.std.proofs.Common.{arith, sym, ◌∙◌}
use Rattle.relief.proofs.Levels.{cut_below, cut-behind}
use Rattle.area.specs.Area.{level_in}
use Rattle.audit.proofs.Tops.{peak-blank, peak-told}
use Rattle.audit.proofs.is_peak.Goals as goal

pub returns-then-grid-c : goal.returns-then-grid-c
returns-then-grid-c c =
    let a = c.args in
    peak-blank a.work.now a.grid.n a.c (cut-behind a.grid.n (level_in a.work.now) a.c c.if-grid-c.true)

pub returns-then-level-ne0 : goal.returns-then-level-ne0
returns-then-level-ne0 c =
    peak-told c.top.ensures c.if-grid-c.false (omega (arith, c.if-level-ne0.true)) c.get-level.ensures

pub returns-else-level-ne0 : goal.returns-else-level-ne0
returns-else-level-ne0 c =
    let a = c.args in
    rw c.if-level-ne0.false (peak-blank a.work.now a.grid.n a.c
    (cut_below a.grid.n (level_in a.work.now) a.c c.if-grid-c.false ∙ sym c.get-level.ensures ∙ c.if-level-ne0.false))
