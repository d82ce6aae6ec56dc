-- `Spot::level`: the level that counts of a place without a cell is 0, and of a cell that of the work area.
-- Assumes nothing.
use Rattle.std.proofs.Common.{arith, sym, ◌∙◌, ap}
use Rattle.relief.specs.Inner.{cut}
use Rattle.relief.proofs.Levels.{cut_below, cut-behind}
use Rattle.area.specs.Area.{level_in}
use Rattle.places.proofs.Spot.level.Goals as goal

pub returns-in-Some : goal.returns-in-Some
returns-in-Some c =
    let (e, b) = c.in-Some.ensures.there in
    let l = level_in c.args.work.now in
    c.get.ensures ∙ sym (ap (cut c.args.self.limit l) (sym e) ∙ cut_below c.args.self.limit l _ b)

pub returns-in-None : goal.returns-in-None
returns-in-None c =
    let l = level_in c.args.work.now in
    sym (ap (cut c.args.self.limit l) c.in-None.ensures.absent ∙ cut-behind c.args.self.limit l _ (omega arith))
