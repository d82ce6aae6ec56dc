-- `passes_of`: the links lead through the passes under the peak. Assumes nothing.
use Rattle.std.proofs.Common.{refl, arith}
use Rattle.kin.specs.Kin.{passes_in}
use Rattle.outline.proofs.Chains.{passes-few, chain-ends}
use Rattle.outline.proofs.linked.passes_of.Goals as goal

pub invariant_of-result : goal.invariant_of-result
invariant_of-result c = record {
  area = c.requires.area;
  quarter = omega arith;
  ends = rw (c.index-next.ensures, c.get.ensures)
      (chain-ends c.requires.down (passes-few c.args.work.now c.args.n c.args.q));
}

pub returns : goal.returns
unfolding passes_in
returns c = rw (c.index-next.ensures, c.get.ensures) refl
