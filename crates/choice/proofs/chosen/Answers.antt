-- `chosen`, whether a cell is that of a listed peak of the part asked for: the answers are blank ground, a root, a
-- slope, a prominence below the threshold, and a peak with a key height. `ChosenCells` has a law of `chosen_in` for
-- each; the pass cell is below n, so its level can be read. The prominence of two heights is the difference of their
-- levels. Assumes nothing.
use Rattle.std.proofs.Common.{◌≡◌, sym, ◌∙◌, ap, arith, ℕ, ℤ, ◌-◌, ◌<◌, to_z, of_z}
use Rattle.std.proofs.lemmas.Bool.{leb-true, leb-false, ltb-true}
use lib.Signed.{mag}
use mir.Syntax.{w32}
use mir.Val.{SFits}
use mir.ValLaws.{to_z-of_z}
use Rattle.scale.specs.Prominence.{Prominent}
use Rattle.relief.specs.Heights.{level_of}
use Rattle.scale.proofs.Levels.{prominent-levels}
use Rattle.area.specs.Area.{level_in, parent_in, pass_of, cell_in, mark_in, mark_two_in}
use Rattle.choice.proofs.ChosenCells.{chosen-blank, chosen-top, chosen-slope, chosen-low, chosen-keyed}
use Rattle.choice.proofs.chosen.Goals as goal
use Rattle.choice.proofs.chosen.Goals.{After-get-key, then-level-key, else-level-key}

pub returns-then-level-eq0 : goal.returns-then-level-eq0
returns-then-level-eq0 c =
    chosen-blank c.args.work.now c.args.n c.args.threshold c.args.part c.args.c
    (sym c.get-level.ensures ∙ c.if-level-eq0.true)

pub returns-then-get-c : goal.returns-then-get-c
returns-then-get-c c =
    chosen-top c.args.work.now c.args.n c.args.threshold c.args.part c.args.c
    (omega (arith, c.get-level.ensures, c.if-level-eq0.false)) (sym c.get.ensures ∙ c.if-get-c.true)
    (c.mark_in.ensures ∙ ap mark_in c.get-w.ensures) c.wants.ensures

-- ---- land that is no root

land : (c : After-get-key) → 0 < level_in c.args.work.now c.args.c
land c = omega (arith, c.get-level.ensures, c.if-level-eq0.false)

hung : (c : After-get-key) → parent_in c.args.work.now c.args.n c.args.c ≡ c.args.c → ⊥
hung c e = c.if-get-c.false (c.get.ensures ∙ e)

key-is : (c : After-get-key) →
    let s = c.args.work.now in
    c.get-key.result ≡ level_in s (pass_of s c.args.n c.args.c)
key-is c = c.get-key.ensures ∙ ap (level_in c.args.work.now) (c.cell_in.ensures ∙ ap cell_in c.get-w.ensures)

-- the prominence of a height over a key height is the difference of their levels
rise : (h k : ℤ) {r lh lk : ℕ} → mag h < 2147483648 → mag k < 2147483648
    → Prominent (to_z w32 (of_z w32 h)) (to_z w32 (of_z w32 k)) r → level_of h ≡ lh → level_of k ≡ lk → r ≡ lh - lk
rise h k bh bk d eh ek =
    let fh : SFits w32 h = record { sfits = bh } in
    let fk : SFits w32 k = record { sfits = bk } in
    let p = prominent-levels fh fk (rw (to_z-of_z w32 h fh, to_z-of_z w32 k fk) at d) in
    omega arith

pub returns-then-prominence-threshold : goal.returns-then-prominence-threshold
returns-then-prominence-threshold c =
    let at = (goal.at.returns-then-prominence-threshold c).After-get-key in
    let a = c.args in
    let k = key-is at in
    elim c.if-level-key.branch [
      | then-level-key w ↦
          let h = w.height in
          let l = w.height-then-level-key in
          let p = w.prominence in
          let r = rise h.result l.result h.type_inv l.type_inv p.ensures h.ensures l.ensures in
          let enough = leb-true a.threshold p.result (sym w.value-is ∙ c.if-prominence-threshold.true) in
          chosen-keyed a.work.now a.n a.threshold a.part a.c (land at) (hung at)
          (omega (arith, c.get-level.ensures, w.if-level-key.true)) (omega (arith, c.get-level.ensures))
          (c.mark_two_in.ensures ∙ ap mark_two_in c.get-w.ensures) c.wants-then-prominence-threshold.ensures
      | else-level-key w ↦
          let higher = ltb-true c.get-key.result c.get-level.result (sym w.value-is ∙ c.if-prominence-threshold.true) in
          absurd (omega (arith, w.if-level-key.false))
    ]

pub returns-else-prominence-threshold : goal.returns-else-prominence-threshold
returns-else-prominence-threshold c =
    let at = (goal.at.returns-else-prominence-threshold c).After-get-key in
    let a = c.args in
    let k = key-is at in
    elim c.if-level-key.branch [
      | then-level-key w ↦
          let h = w.height in
          let l = w.height-then-level-key in
          let p = w.prominence in
          let r = rise h.result l.result h.type_inv l.type_inv p.ensures h.ensures l.ensures in
          let low = leb-false a.threshold p.result (sym w.value-is ∙ c.if-prominence-threshold.false) in
          c.if-prominence-threshold.false
          ∙ chosen-low a.work.now a.n a.threshold a.part a.c (land at) (hung at)
          (omega (arith, c.get-level.ensures, w.if-level-key.true)) (omega (arith, c.get-level.ensures))
      | else-level-key w ↦
          c.if-prominence-threshold.false
          ∙ chosen-slope a.work.now a.n a.threshold a.part a.c (land at) (hung at)
          (omega (arith, c.get-level.ensures, w.if-level-key.false))
    ]
