-- What the code's casts between i32, i64 and u32 ask and give.
--     wide_fits, wide_read             a signed 32-bit number as an i64
--     natural-fits, natural-read       an i64 that is a natural number below 2^32, as a u32
-- A signed local holds bits, so a value that was stored comes back as `to_z w (of_z w z)`, which is z where z fits the
-- width. Assumes nothing.
use mathlib.Core.Path.{◌≡◌, ap, ◌∙◌}
use Prim.Native.Nat.{ℕ, ◌<◌}
use native.Mathlib.Omega.{arith}
use lib.IntN.{ℤ, pos, nat_abs}
use mir.Syntax.{w32, w64}
use mir.Val.{SFits, to_z, of_z}
use mir.ValLaws.{to_z-of_z}

pub wide_fits : {z : ℤ} → SFits w32 z → SFits w64 z
wide_fits f = let h = f.sfits in record { sfits = omega arith }

pub wide_read : {z : ℤ} → SFits w32 z → to_z w64 (of_z w64 (to_z w32 (of_z w32 z))) ≡ z
wide_read {z} f = ap (λ (y : ℤ). to_z w64 (of_z w64 y)) (to_z-of_z w32 z f) ∙ to_z-of_z w64 z (wide_fits f)

module _ {z : ℤ} {n : ℕ} (e : z ≡ pos n) (h : n < 4294967296) where
  pub natural-fits : SFits w64 z
  natural-fits = rw e (record { sfits = omega arith })

  natural-back : to_z w64 (of_z w64 z) ≡ pos n
  natural-back = to_z-of_z w64 z natural-fits ∙ e

  pub natural-read : nat_abs (to_z w64 (of_z w64 z)) ≡ n
  natural-read = ap nat_abs natural-back
