-- `end_good`: the levels of the held cells are loaded and surveyed, and the room decides between 5 and the count.
-- Assumes nothing.
use Rattle.run.proofs.Columns.{end-made}
use Rattle.run.proofs.end_good.Goals as goal

pub returns : goal.returns
returns c =
    let a = c.args in
    end-made a.run a.grid.now a.work.now c.requires c.held_cells-held.ensures a.room
    c.index.ensures c.load.ensures c.rest-count.ensures
    c.room_answer-handed.ensures c.after_end.ensures
