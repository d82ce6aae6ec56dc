-- `hang_peaks`, every cell seen to from the last on: a turn sees to the cell before c (`hung-step`). Assumes nothing.
use Rattle.kin.proofs.PeaksHung.{hung-start, hung-step, hung-back}
use Rattle.kin.proofs.hang_peaks.Goals as goal

pub loop-c-init : goal.loop-c-init
loop-c-init c = hung-start c.requires

pub loop-c-preserved : goal.loop-c-preserved
loop-c-preserved c = hung-step c.requires (hung-back c.loop-c-test.true c.loop-c.invariant) c.file.ensures
