-- `tops`: a turn prints the text of a cell. Assumes nothing.
use Rattle.std.proofs.Common.{◌≡◌, arith}
use Rattle.outline.specs.Inner.{tops_print}
use Rattle.outline.proofs.TopsLoop.{tops-asked, tops_step}
use Rattle.outline.proofs.tops.tops.Goals as goal

pub loop-c-init : goal.loop-c-init
unfolding tops_print
loop-c-init g c = g.met.S.Sink.laws.none c.args.sink.now

pub top-requires : goal.top-requires
top-requires g c = tops-asked g.met.S.Sink.laws c.requires c.loop-c.invariant c.loop-c-test.true

pub loop-c-preserved : goal.loop-c-preserved
loop-c-preserved g c =
    tops_step g.met.S.Sink.laws c.requires c.loop-c.invariant c.loop-c-test.true c.top.ensures

pub returns : goal.returns
returns g c =
    let all : c.loop-c.c ≡ c.args.n = omega (arith, c.loop-c.auto.c-end, c.loop-c-test.false) in
    rw all at c.loop-c.invariant
