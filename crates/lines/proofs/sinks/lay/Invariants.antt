-- The first `i` bytes are laid.
use Rattle.std.proofs.Common.{◌≡◌, take}
use Rattle.words.specs.Words.{over}
use Rattle.lines.proofs.sinks.lay.Given as goal

abbrev pub invariant-loop-i : goal.invariant-loop-i
invariant-loop-i l = l.text ≡ over l.fn.text l.at (take l.i l.bytes)
