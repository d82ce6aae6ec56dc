-- `thread_passes`, every cell of the order seen to from the last on: a turn sees to the place before i
-- (`threaded-step`). Assumes nothing.
use Rattle.std.proofs.Common.{◌∙◌, ap}
use Rattle.area.specs.Area.{cell_in}
use Rattle.kin.proofs.PassesThreaded.{threaded-start, threaded-step, threaded-back}
use Rattle.kin.proofs.thread_passes.Goals as goal

pub loop-i-init : goal.loop-i-init
loop-i-init c = threaded-start c.args.work.now c.args.n c.args.m

pub loop-i-preserved : goal.loop-i-preserved
loop-i-preserved c =
    threaded-step c.requires (threaded-back c.loop-i-test.true c.loop-i.invariant)
    (c.cell_in.ensures ∙ ap cell_in c.get.ensures) c.thread.ensures
