-- `record::Cell::is_blank` meets its contract. Comparing bits finds the mark (`mark-bits`). Assumes nothing.
use Rattle.scale.proofs.Levels.{mark-bits}
use Rattle.record.proofs.Cell.is_blank.Goals as goal

pub returns : goal.returns
returns c = mark-bits {z = c.args.self.height} (record { sfits = c.struct_told-1.given.0.1 })
