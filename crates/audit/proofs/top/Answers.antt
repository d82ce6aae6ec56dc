-- `top`: the best cell that a flood has reached. Assumes nothing.
use Rattle.audit.proofs.Tops.{topped}
use Rattle.audit.proofs.top.Goals as goal

pub returns : goal.returns
returns c = topped c.flood.ensures c.best_cell.ensures
