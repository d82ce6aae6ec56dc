-- `file`, which sees to one cell: it is left as it is, made a top, or hung at its pass. The pass of a listed peak that
-- is no root is lower than it (`listed-key`), and so another cell. Assumes nothing.
use Rattle.std.proofs.Common.{sym, ◌∙◌, ap, arith}
use Rattle.area.specs.Area.{level_in}
use Rattle.kin.proofs.ListedCells.{listed-land, listed-key}
use Rattle.kin.proofs.file.Goals as goal

pub hang-requires : goal.hang-requires
hang-requires c =
    let a = c.args in
    let s = a.work.now in
    let here = sym c.chosen.ensures ∙ c.if-chosen.true in
    let lower = listed-key s a.n a.threshold a.c here (λ e. c.if-get-c.false (c.get.ensures ∙ e)) in
    record {
      area = c.requires.area;
      cell = c.requires.cell;
      pass = c.requires.pass (listed-land s a.n a.threshold a.c here);
      apart = λ e. omega (arith, lower, ap (level_in s) e);
    }
