-- How long lines are at most.
--     decimal-length                 a number of 32 bits has at most 10 digits
--     peak-length, pass-length       the line of a peak or a pass has at most 64 bytes
-- Assumes nothing.
use Prim.Native.Nat.{ℕ, ◌≤◌, ◌<◌, ◌-◌}
use native.Mathlib.Decide.{dec_lt}
use native.Mathlib.Omega.{arith}
use lib.ListN.{length, length-append}
use Rattle.relief.specs.Heights.{height_of}
use Rattle.relief.specs.Outline.{decimal_of, sign_of, peak_line, pass_line}
use Rattle.lines.proofs.Decimal.{decimal-most, sign_high, sign_low}

pub decimal-length : (v : ℕ) → v < 4294967296 → length (decimal_of v) ≤ 10
decimal-length v h = decimal-most 9 v (omega arith)

sign-length : (level : ℕ) → level < 4294967296 → length (sign_of (height_of level)) ≤ 11
sign-length level h = elim (dec_lt level 2147483648) [
  | yes l ↦ rw (sign_low level l) (omega (arith, decimal-length (2147483648 - level) (omega arith)))
  | no l ↦ rw (sign_high level (omega arith)) (omega (arith, decimal-length (level - 2147483648) (omega arith)))
]

module _ (depth cell level : ℕ) (d : depth < 4294967296) (c : cell < 4294967296) (l : level < 4294967296) where
  pub peak-length : (out : ℕ) → out < 4294967296 → length (peak_line depth cell level out) ≤ 64
  unfolding peak_line
  peak-length out o =
      simp length-append
      (omega (arith, decimal-length depth d, decimal-length cell c, sign-length level l, decimal-length out o))

  pub pass-length : length (pass_line depth cell level) ≤ 64
  unfolding pass_line
  pass-length =
      simp length-append (omega (arith, decimal-length depth d, decimal-length cell c, sign-length level l))
