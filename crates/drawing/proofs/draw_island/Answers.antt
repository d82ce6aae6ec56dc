-- `draw_island`: what is reached above k is the island. Assumes nothing.
use Rattle.std.proofs.Common.{refl}
use Rattle.drawing.proofs.Drawn.{drawn-island}
use Rattle.drawing.proofs.draw_island.Goals as goal

pub returns : goal.returns
returns c = drawn-island c.requires refl c.flood.ensures c.put_cells.ensures
