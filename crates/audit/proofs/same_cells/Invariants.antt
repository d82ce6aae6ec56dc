-- `same_cells`, the walk through the cells: the row is the reached cells below c, and what is left of it. What falls is
-- n - c.
use Rattle.std.proofs.Common.{◌≡◌, ◌++◌, ◌-◌}
use Rattle.std.specs.Slice.Iter.{iter_rest}
use Rattle.relief.specs.Inner.{row_below}
use Rattle.flood.specs.Flood.{reached_in}
use Rattle.audit.proofs.same_cells.Given as goal

abbrev pub invariant-loop-c : goal.invariant-loop-c
invariant-loop-c l = l.island ≡ row_below (reached_in l.work l.n) l.c ++ iter_rest l.rest

abbrev pub decreases-loop-c : goal.decreases-loop-c
decreases-loop-c l = l.n - l.c
