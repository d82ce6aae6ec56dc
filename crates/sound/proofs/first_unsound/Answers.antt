-- A turn either ends the search at an unsound record or takes it past a sound one.
use Rattle.std.proofs.Common.{◌≡◌, arith, length}
use Rattle.sound.specs.Sound.{ith_of}
use Rattle.sound.proofs.Scans.{scan-start, scan-next, scan-stop, scan-done}
use Rattle.sound.proofs.first_unsound.Goals as goal

pub loop-i-init : goal.loop-i-init
loop-i-init g c = scan-start (g.H.Heights.heights c.args.heights) (g.R.Records.records c.args.records)

pub returns-then-not-is_sound_in : goal.returns-then-not-is_sound_in
unfolding ith_of
returns-then-not-is_sound_in g c =
    let unsound = c.is_sound_in.ensures.fails c.if-not-is_sound_in.true in
    (omega arith, scan-stop c.loop-i.invariant (rw c.record-p.ensures at unsound))

pub loop-i-preserved : goal.loop-i-preserved
unfolding ith_of
loop-i-preserved g c =
    scan-next c.loop-i.invariant (omega arith) c.record-p.ensures
    (c.is_sound_in.ensures.holds c.if-not-is_sound_in.false) c.next_cell-least.ensures.0

pub returns : goal.returns
returns g c =
    let e : c.loop-i.i ≡ length (g.R.Records.records c.args.records) = omega arith in
    rw e at (scan-done c.loop-i.invariant (omega arith))
