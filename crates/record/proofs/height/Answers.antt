-- The level less 2^31 is a signed 32-bit number with that level (`level-onto`), so neither the difference nor the cast
-- to 32 bits changes it.
use mathlib.Core.Path.{◌≡◌, ap}
use Prim.Native.Nat.{ℕ, ◌<◌}
use native.Mathlib.Omega.{arith}
use lib.IntN.{ℤ, pos, ◌-ℤ◌}
use mir.Syntax.{w32, w64}
use mir.Val.{SFits, to_z}
use mir.ValLaws.{to_z_pos, to_z-of_z}
use Rattle.scale.proofs.Levels.{level-onto}
use Rattle.record.proofs.Widths.{wide_fits}
use Rattle.record.proofs.height.Goals as goal

module _ (level : ℕ) (small : level < 4294967296) where
  abbrev difference : ℤ
  difference = to_z w64 level -ℤ pos 2147483648

  lowered : difference ≡ pos level -ℤ pos 2147483648
  lowered = ap (λ (z : ℤ). z -ℤ pos 2147483648) (to_z_pos w64 level (omega arith))

  fits : SFits w32 difference
  fits = rw lowered (level-onto level small).0

pub returns : goal.returns
returns c =
    let l = c.args.level in
    let f = fits l (omega arith) in
    rw (
      to_z-of_z w64 (difference l (omega arith)) (wide_fits f),
      to_z-of_z w32 (difference l (omega arith)) f,
      lowered l (omega arith),
    )
    (level-onto l (omega arith)).1
