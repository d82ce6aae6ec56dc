-- An answer false names the clause that fails, and where none does the key fields decide (`sound-decides`).
use Rattle.std.proofs.Common.{◌∙◌, sym, ap, arith, w32, SFits}
use mir.ValLaws.{to_z-of_z}
use Rattle.relief.specs.Heights.{level_of}
use Rattle.relief.proofs.Tests.{refuted}
use Rattle.scale.specs.Prominence.{is_mark}
use Rattle.sound.proofs.ByLevels.{mark-decides, sound-decides}
use Rattle.sound.proofs.is_sound.Goals as goal
use Rattle.sound.proofs.is_sound.Goals.{then-cells-cell-via-then-cells-cell}
use Rattle.sound.proofs.is_sound.Goals.{then-cells-cell-via-else-cells-cell+then-cell-least}
use Rattle.sound.proofs.is_sound.Goals.{then-cells-cell-via-else-cells-cell+else-cell-least+then-is_blank}
use Rattle.sound.proofs.is_sound.Goals.{then-cells-cell-via-else-cells-cell+else-cell-least+else-is_blank+then-level}

pub returns-then-cells-cell : goal.returns-then-cells-cell
returns-then-cells-cell c hs len here there =
    let height : SFits w32 c.args.p.height = record { sfits = c.struct_told-1.given.1.0.1 } in
    let height-is = c.level-level.ensures ∙ ap level_of (to_z-of_z w32 c.args.p.height height) in
    let same = to_z-of_z w32 c.args.here c.ranges.here in
    elim c.then-cells-cell.branch [
      | then-cells-cell-via-then-cells-cell w ↦ refuted (λ s. omega (arith, s.exists))
      | then-cells-cell-via-else-cells-cell+then-cell-least w ↦ refuted (λ s. omega (arith, s.later))
      | then-cells-cell-via-else-cells-cell+else-cell-least+then-is_blank w ↦
          refuted (λ s. s.height (sym s.holds ∙ here ∙ (mark-decides c.ranges.here).holds
          (sym (w.is_blank.ensures ∙ ap is_mark same) ∙ w.if-is_blank.true)))
      | then-cells-cell-via-else-cells-cell+else-cell-least+else-is_blank+then-level w ↦
          refuted (λ s. w.if-level.true
          (w.level.ensures ∙ ap level_of same ∙ ap level_of (sym here ∙ s.holds) ∙ sym height-is))
    ]

pub returns : goal.returns
returns c hs len here there =
    let height : SFits w32 c.args.p.height = record { sfits = c.struct_told-1.given.1.0.1 } in
    let height-is = c.level-level.ensures ∙ ap level_of (to_z-of_z w32 c.args.p.height height) in
    let same = to_z-of_z w32 c.args.here c.ranges.here in
    sound-decides height c.ranges.here here (omega arith) (omega arith)
    (sym (c.is_blank.ensures ∙ ap is_mark same) ∙ c.if-is_blank.false)
    (sym (c.level.ensures ∙ ap level_of same) ∙ c.if-level.false ∙ height-is)
    (c.has_fit_keys.ensures hs len (there ∙ sym (to_z-of_z w32 c.args.there c.ranges.there)))
