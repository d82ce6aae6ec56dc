-- `draw`: the island above the key height and the first way at it are the tool's own account. Assumes nothing.
use mathlib.Core.Path.{refl, ◌∙◌, ap, subst, sym}
use mir.Syntax.{w32}
use mir.Val.{SFits}
use mir.ValLaws.{to_z-of_z}
use Rattle.relief.specs.Heights.{level_of}
use Rattle.account.proofs.Drawn.{draw-drawing, drew}
use Rattle.account.proofs.draw.Goals as goal

pub draw_island-cells-requires : goal.draw_island-cells-requires
draw_island-cells-requires c =
    let w = c.requires in
    draw-drawing w (λ d l. refl) refl w.island_room

pub draw_path-steps-requires : goal.draw_path-steps-requires
draw_path-steps-requires c =
    let w = c.requires in
    let h = c.draw_island-cells.ensures in
    draw-drawing w h.front h.len w.path_room

pub returns : goal.returns
returns c =
    let fits : SFits w32 c.height.result = record { sfits = c.height.type_inv } in
    let e = to_z-of_z w32 c.height.result fits in
    drew c.requires c.draw_island-cells.ensures c.draw_path-steps.ensures (ap level_of e ∙ c.height.ensures)
    (subst (SFits w32) (sym e) fits) c.narrow.ensures c.narrow-2.ensures c.slice_known-1.given c.type_inv.work
