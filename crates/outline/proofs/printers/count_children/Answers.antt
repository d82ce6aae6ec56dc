-- `count_children`: a turn counts the peaks of a pass. Assumes nothing.
use Rattle.std.proofs.Common.{◌≡◌, arith, ap, inl, length}
use Rattle.std.proofs.lemmas.Iterator.Consumers.{count_from_yields_List, YieldsList-from_first}
use Rattle.kin.specs.Kin.{peaks_in}
use Rattle.outline.proofs.Chains.{peaks-few}
use Rattle.outline.proofs.Children.{counting-turn, counting-done}
use Rattle.outline.proofs.printers.count_children.Goals as goal
use Rattle.outline.proofs.printers.count_children.Goals.{After-count-count}

counted : (c : After-count-count) → c.count-count.result ≡ length (peaks_in c.args.work.now c.args.n c.in-Some.x)
counted c =
    count_from_yields_List c.peaks_of.result _ c.count-count.ensures.ran
    (YieldsList-from_first (λ x. x) (λ cells. cells) _ c.peaks_of.ensures)

pub count-count-requires-clause-fits : goal.count-count-requires-clause-fits
count-count-requires-clause-fits c =
    let few = peaks-few c.args.work.now c.args.n c.in-Some.x in
    inl (omega (arith, ap length c.peaks_of.ensures, few, c.requires.area.few))

pub loop-x-preserved : goal.loop-x-preserved
loop-x-preserved c =
    counting-turn c.loop-x.invariant c.in-Some.ensures.steps (counted c)

pub overflow_add-count : goal.overflow_add-count
overflow_add-count c =
    let now = counting-turn c.loop-x.invariant c.in-Some.ensures.steps (counted c) in
    omega (arith, now.all, c.requires.few)

pub returns : goal.returns
returns c = counting-done c.loop-x.invariant c.in-None.ensures.steps.0
