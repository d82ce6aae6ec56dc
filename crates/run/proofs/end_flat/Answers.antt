-- `end_flat`: a call that a test refuses changes nothing, and one that passes them is `end_good`. Assumes nothing.
use mathlib.Core.Path.{refl, sym, ◌∙◌}
use mathlib.Core.List.{[]}
use lib.ListN.{length}
use Rattle.running.proofs.Checks.{end-passed}
use Rattle.run.proofs.Columns.{end_refused}
use Rattle.run.proofs.end_flat.Goals as goal

pub end_good-requires : goal.end_good-requires
end_good-requires c =
    let a = c.args in
    end-passed a.run (length a.grid.now) (length a.work.now)
    (sym c.check_end.ensures ∙ c.in-Ok.is)

pub returns-in-Err : goal.returns-in-Err
returns-in-Err c =
    let a = c.args in
    end_refused a.run [] a.grid.now a.room a.work.now
    (sym c.check_end.ensures ∙ c.in-Err.is) refl
