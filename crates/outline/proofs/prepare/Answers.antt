-- `prepare`: the levels of the held cells are loaded, ranked and swept with their tops noted, and the listed peaks
-- linked; each promise is what the next call asks. Assumes nothing.
use Rattle.outline.proofs.Preparing.{prepare-loading, prepare-surveying, prepared}
use Rattle.outline.proofs.prepare.Goals as goal

pub load-requires : goal.load-requires
load-requires c =
    let a = c.args in
    prepare-loading a.run a.grid.now a.work.now c.requires c.held_cells-n.ensures c.index-rows.ensures

pub tops-m-requires : goal.tops-m-requires
tops-m-requires c =
    let a = c.args in
    prepare-surveying a.run a.grid.now a.work.now c.requires c.held_cells-n.ensures c.index-rows.ensures c.load.ensures

pub returns : goal.returns
returns c =
    let a = c.args in
    prepared a.run a.grid.now a.work.now c.requires c.held_cells-n.ensures c.index-rows.ensures c.load.ensures
    c.tops-m.ensures c.link.ensures c.slice_known-3-1.given c.type_inv.work
