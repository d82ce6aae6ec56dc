-- `collect`, the chosen cells in reading order: a turn puts c behind those collected, if it is chosen. Assumes nothing.
use Rattle.std.proofs.Common.{sym, ◌∙◌}
use Rattle.choice.proofs.Gathering.{gather-left, gather-put}
use Rattle.choice.proofs.collect.Goals as goal
use Rattle.choice.proofs.collect.Goals.{then-chosen, else-chosen}

pub loop-c-preserved : goal.loop-c-preserved
loop-c-preserved c =
    elim c.if-chosen.branch [
      | then-chosen w ↦
          let put = gather-put c.args.threshold c.args.part c.requires c.loop-c.invariant c.loop-c-test.true
          w.put.ensures in
          rw (w.work-is, w.count-is) (put (sym c.chosen.ensures ∙ w.if-chosen.true))
      | else-chosen w ↦
          let left = gather-left c.args.threshold c.args.part c.requires c.loop-c.invariant c.loop-c-test.true in
          rw (w.work-is, w.count-is) (left (sym c.chosen.ensures ∙ w.if-chosen.false))
    ]
