-- `peaks_of`: the links lead through the peaks of the pass. Assumes nothing.
use Rattle.std.proofs.Common.{refl, arith}
use Rattle.kin.specs.Kin.{peaks_in}
use Rattle.outline.proofs.Chains.{peaks-few, chain-ends}
use Rattle.outline.proofs.linked.peaks_of.Goals as goal

pub invariant_of-result : goal.invariant_of-result
invariant_of-result c = record {
  area = c.requires.area;
  quarter = omega arith;
  ends = rw (c.cell_in-next.ensures, c.get.ensures)
      (chain-ends c.requires.across (peaks-few c.args.work.now c.args.n c.args.x));
}

pub returns : goal.returns
unfolding peaks_in
returns c = rw (c.cell_in-next.ensures, c.get.ensures) refl
