-- The records before the i-th are sound, and `least` is the least cell left to it.
use Rattle.sound.proofs.Scans.{SoundBefore}
use Rattle.sound.proofs.first_unsound.Given as goal

abbrev pub invariant-loop-i : goal.invariant-loop-i
invariant-loop-i g l = SoundBefore (g.H.Heights.heights l.heights) (g.R.Records.records l.records) l.i l.least
