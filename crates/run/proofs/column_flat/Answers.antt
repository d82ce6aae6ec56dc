-- `column_flat`: a call that a test refuses changes nothing, and one that passes them is `column_good`. Assumes
-- nothing.
use mathlib.Core.Path.{refl, sym, ◌∙◌}
use lib.ListN.{length}
use Rattle.running.proofs.Checks.{column-passed}
use Rattle.run.proofs.Columns.{column-refused}
use Rattle.run.proofs.column_flat.Goals as goal

pub column_good-requires : goal.column_good-requires
column_good-requires c =
    let a = c.args in
    column-passed a.run (length a.column.now) (length a.grid.now) (length a.work.now)
    (sym c.check_column.ensures ∙ c.in-Ok.is)

pub returns-in-Err : goal.returns-in-Err
returns-in-Err c =
    let a = c.args in
    column-refused a.run a.column.now a.grid.now a.room a.work.now
    (sym c.check_column.ensures ∙ c.in-Err.is) refl
