-- The first i heights are the file's, the others as they were.
use Rattle.std.proofs.Common.{◌≡◌}
use Rattle.layout.specs.Layout.{heights_in}
use Rattle.table.proofs.Grows.{filled}
use Rattle.reader.proofs.take_heights.Given as goal

abbrev pub invariant-loop-i : goal.invariant-loop-i
invariant-loop-i l = l.heights ≡ filled (heights_in l.file) l.fn.heights l.i
