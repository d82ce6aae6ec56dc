-- `column_good`: the column is copied behind the taken cells, their levels loaded and surveyed, and the room decides
-- between 5 and the count; `Columns` puts the calls' promises together. Assumes nothing.
use Rattle.run.proofs.Columns.{column-made}
use Rattle.run.proofs.column_good.Goals as goal

pub returns : goal.returns
returns c =
    let a = c.args in
    column-made a.run a.column.now a.grid.now a.work.now c.requires c.held_cells-held.ensures
    c.index-rows.ensures a.room c.copy.ensures c.load.ensures
    c.closing-count.ensures c.room_answer-handed.ensures c.after_column.ensures
