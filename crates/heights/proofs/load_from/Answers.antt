-- A turn stores one word.
use mathlib.Core.Path.{◌∙◌, ap}
use mir.Syntax.{w32}
use mir.ValLaws.{to_z-of_z}
use Rattle.relief.specs.Heights.{BLANK, level_of}
use Rattle.heights.proofs.Loads.{loads-start, loads-step, loads-done}
use Rattle.heights.proofs.load_from.Goals as goal

pub loop-c-init : goal.loop-c-init
loop-c-init g c = loads-start c.args.work.now (g.H.Heights.heights c.args.heights) c.args.n c.slice_known-1.given

pub loop-c-preserved : goal.loop-c-preserved
loop-c-preserved g c =
    loads-step BLANK c.requires.all c.loop-c.invariant c.loop-c-test.true
    (c.level.ensures ∙ ap level_of (to_z-of_z w32 _ (record { sfits = c.height.type_inv }) ∙ c.height.ensures))
    c.put.ensures c.slice_known-in-loop-c-1.given

pub returns : goal.returns
returns g c = loads-done c.slice_known-1.given c.loop-c.invariant c.loop-c-test.false
