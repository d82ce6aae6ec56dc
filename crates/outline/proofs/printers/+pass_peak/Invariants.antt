-- `pass` and `peak` each have a loop along links, in which they call one another: of the texts of all just those of the
-- cells ahead are still to be printed. The peaks of a pass have as many levels below them as the pass is told, and the
-- passes under a peak are told one less than the peak: so the measure is twice the levels for `peak`, and one more for
-- `pass`.
use Rattle.std.proofs.Common.{◌+◌, ◌-◌}
use Rattle.outline.proofs.Prints.{Peaking, Passing}
use Rattle.outline.proofs.printers.+pass_peak.Given as goal

abbrev pub decreases-pass : goal.decreases-pass
decreases-pass g l = l.left + l.left + 1

abbrev pub decreases-peak : goal.decreases-peak
decreases-peak g l = l.left + l.left

abbrev pub invariant-pass-loop-p : goal.invariant-pass-loop-p
invariant-pass-loop-p g l =
    Peaking g.S.Sink.fits g.S.Sink.put_gives l.work l.n l.left l.depth l.x l.initial.sink l.sink l.p-iterator

abbrev pub invariant-peak-loop-x : goal.invariant-peak-loop-x
invariant-peak-loop-x g l =
    Passing g.S.Sink.fits g.S.Sink.put_gives l.work l.n (l.left - 1) l.depth l.q l.initial.sink l.sink l.x-iterator
