-- `record::Peak::has_key` meets its contract. Comparing bits finds the mark (`mark-bits`). Assumes nothing.
use mathlib.Core.Bool.{not}
use mathlib.Core.Path.{ap}
use Rattle.scale.proofs.Levels.{mark-bits}
use Rattle.record.proofs.Peak.has_key.Goals as goal

pub returns : goal.returns
returns c =
    let told = c.struct_told-1.given.1.1.0 in
    ap not (mark-bits {z = c.args.self.key} (record { sfits = told.1 }))
