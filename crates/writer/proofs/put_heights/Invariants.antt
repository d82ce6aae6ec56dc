-- The bits of the first i heights are laid over the room, behind the header.
use Rattle.std.proofs.Common.{◌≡◌}
use Rattle.words.specs.Words.{over}
use Rattle.layout.specs.Layout.{bytes_of}
use Rattle.writer.proofs.PutHeights.{bits_to}
use Rattle.writer.proofs.put_heights.Given as goal

abbrev pub invariant-loop-i : goal.invariant-loop-i
invariant-loop-i l = l.room ≡ over l.fn.room 24 (bytes_of (bits_to l.heights l.i))
