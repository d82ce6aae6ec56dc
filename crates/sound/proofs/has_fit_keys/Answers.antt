-- An answer false names the clause that fails, and the two others are tests themselves (`ByLevels`).
use Rattle.std.proofs.Common.{◌≡◌, ◌∙◌, sym, ap, arith, w32, SFits, false}
use borrow.Author.Tests.{not-true, not-false}
use mir.ValLaws.{to_z-of_z}
use Rattle.relief.specs.Heights.{level_of}
use Rattle.scale.specs.Prominence.{is_mark}
use Rattle.scale.proofs.Levels.{level-lt-iff}
use Rattle.sound.proofs.ByLevels.{keyless-decides, keyed-refuted, keyed-decides}
use Rattle.sound.proofs.has_fit_keys.Goals as goal
use Rattle.sound.proofs.has_fit_keys.Goals.{then-missing-via-then-missing, then-missing-via-else-missing+then-level-key}
use Rattle.sound.proofs.has_fit_keys.Goals.{then-missing-via-else-missing+else-level-key+then-cells-index}

pub returns-then-not-has_key : goal.returns-then-not-has_key
returns-then-not-has_key c hs len there =
    keyless-decides (record { sfits = c.struct_told-1.given.1.1.0.1 })
    (not-false _ (sym c.has_key.ensures ∙ c.if-not-has_key.true))

pub returns-then-missing : goal.returns-then-missing
returns-then-missing c hs len there =
    let key : SFits w32 c.args.p.key = record { sfits = c.struct_told-1.given.1.1.0.1 } in
    let height : SFits w32 c.args.p.height = record { sfits = c.struct_told-1.given.1.0.1 } in
    let given : is_mark c.args.p.key ≡ false = not-true _ (sym c.has_key.ensures ∙ c.if-not-has_key.false) in
    let key-is = c.level-key.ensures ∙ ap level_of (to_z-of_z w32 c.args.p.key key) in
    let height-is = c.level-level.ensures ∙ ap level_of (to_z-of_z w32 c.args.p.height height) in
    elim c.then-missing.branch [
      | then-missing-via-then-missing w ↦ keyed-refuted key given (λ k. k.pass w.if-missing.true)
      | then-missing-via-else-missing+then-level-key w ↦
          keyed-refuted key given
          (λ k. omega (arith, (level-lt-iff key height).0 k.below, key-is, height-is, w.if-level-key.true))
      | then-missing-via-else-missing+else-level-key+then-cells-index w ↦
          keyed-refuted key given (λ k. omega (arith, k.exists, w.index.ensures, w.if-cells-index.true))
    ]

pub returns : goal.returns
returns c hs len there =
    let key : SFits w32 c.args.p.key = record { sfits = c.struct_told-1.given.1.1.0.1 } in
    let height : SFits w32 c.args.p.height = record { sfits = c.struct_told-1.given.1.0.1 } in
    let given : is_mark c.args.p.key ≡ false = not-true _ (sym c.has_key.ensures ∙ c.if-not-has_key.false) in
    let key-is = c.level-key.ensures ∙ ap level_of (to_z-of_z w32 c.args.p.key key) in
    let height-is = c.level-level.ensures ∙ ap level_of (to_z-of_z w32 c.args.p.height height) in
    rw (c.level.ensures ∙ ap level_of (to_z-of_z w32 c.args.there c.ranges.there), key-is)
    (keyed-decides key given height c.ranges.there there c.if-missing.false (omega arith) (omega arith))
