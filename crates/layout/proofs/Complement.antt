-- Laws of two's complement: the one file that unfolds `bits_of` and `signed_of`.
--     bits-cast        the bits of z are those that a cast keeps
--     signed-bits      the number with the bits of z is z
--     bits-signed      the bits of the number with the bits w are w
--     signed-cast      a cast reads them so
-- Each goes by the sign, by linear arithmetic. Assumes nothing.
use Rattle.std.proofs.Common.{◌≡◌, ℕ, suc, ◌-◌, ◌<◌, ◌≤◌, ℤ, pos, negsuc, refl, sym, ap, ◌∙◌, arith, w32, SFits, of_z}
use Rattle.std.proofs.Common.{to_z, le-ltb, lt-ltb}
use native.Mathlib.Decide.{dec_lt}
use Rattle.layout.specs.Layout.{bits_of, signed_of}

pub bits-cast : (z : ℤ) → of_z w32 z ≡ bits_of z
unfolding bits_of
bits-cast (pos n) = refl
bits-cast (negsuc n) = omega arith

signed_low : (w : ℕ) → w < 2147483648 → signed_of w ≡ pos w
unfolding signed_of
signed_low w h = rw (lt-ltb w 2147483648 h, signed_of)

signed_high : (w : ℕ) → 2147483648 ≤ w → signed_of w ≡ negsuc (4294967295 - w)
unfolding signed_of
signed_high w h = rw (le-ltb w 2147483648 h, signed_of)

pub signed-bits : {z : ℤ} → SFits w32 z → signed_of (bits_of z) ≡ z
unfolding bits_of
signed-bits {z = pos n} f = let h = f.sfits in signed_low n (omega arith)
signed-bits {z = negsuc n} f =
    let h = f.sfits in
    let back : 4294967295 - (4294967295 - n) ≡ n = omega arith in
    signed_high (4294967295 - n) (omega arith) ∙ ap negsuc back

pub bits-signed : (w : ℕ) → w < 4294967296 → bits_of (signed_of w) ≡ w
unfolding bits_of
bits-signed w h = elim (dec_lt w 2147483648) [
  | yes l ↦ ap bits_of (signed_low w l)
  | no n ↦ ap bits_of (signed_high w (omega arith)) ∙ omega arith
]

pub signed-cast : (w : ℕ) → to_z w32 w ≡ signed_of w
signed-cast w = elim (dec_lt w 2147483648) [
  | yes l ↦ rw (lt-ltb w 2147483648 l) (sym (signed_low w l))
  | no n ↦
      let h : 2147483648 ≤ w = omega arith in
      let e : 4294967296 - suc w ≡ 4294967295 - w = omega arith in
      rw (le-ltb w 2147483648 h) (ap negsuc e ∙ sym (signed_high w h))
]
