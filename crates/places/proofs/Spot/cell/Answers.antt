-- `Spot::cell`: a place that has a cell is behind the start, and its number is the cell's. Assumes nothing.
use Rattle.std.proofs.Common.{arith}
use Rattle.places.proofs.PlanePlaces.{neighbour-past, neighbour-is}
use Rattle.places.proofs.Spot.cell.Goals as goal

pub place-requires : goal.place-requires
place-requires c =
    let a = c.args.self.around in
    neighbour-past _ _ _ _ c.requires.1 a.rows_few (omega (arith, a.cell, a.limit_few)) c.requires.0 c.spread.ensures

pub returns : goal.returns
returns c = neighbour-is _ _ _ _ c.requires.1 c.spread.ensures c.place.ensures
