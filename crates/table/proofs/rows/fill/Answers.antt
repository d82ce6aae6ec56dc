-- The records of the order are so many as are counted.
use Rattle.std.proofs.Common.{◌++◌, drop, ℕ, arith, ap, ◌∙◌}
use Rattle.table.specs.Inner.{records_in}
use Rattle.table.proofs.Laws.{records-length}
use Rattle.table.proofs.rows.fill.Goals as goal

pub take-requires : goal.take-requires
take-requires c =
    let a = c.args in
    omega (arith, records-length a.work.now a.n a.count, c.requires.room)

pub returns : goal.returns
returns c =
    let a = c.args in
    c.take.ensures
    ∙ ap (λ (k : ℕ). records_in a.work.now a.n a.count ++ drop k a.table.now) (records-length a.work.now a.n a.count)
