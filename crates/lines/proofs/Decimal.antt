-- Laws of numbers in decimal digits: the one file that unfolds `decimal_of` and `height_of`.
--     decimal-small, decimal-more    a digit alone, and the last digit of more than one
--     length_more                    a digit more
--     decimal-one, decimal-many      how many digits a number between two powers of ten has
--     decimal-most                   how many digits a number below a power of ten has at most
--     sign_high, sign_low            the digits of a height by its level, and its sign
-- How much `digits_of` is given to stop by does not matter if it is more than the number (`digits-enough`).
-- Assumes nothing.
use mathlib.Core.Path.{◌≡◌, ap, ◌∙◌}
use mathlib.Core.List.{List, [], ◌∷◌, ◌++◌}
use Prim.Native.Nat.{ℕ, zero, suc, ◌+◌, ◌-◌, ◌/◌, ◌%◌, ◌^◌, ◌≤◌, ◌<◌}
use native.Mathlib.Decide.{dec_lt}
use native.Mathlib.Nat.{pow-suc}
use native.Mathlib.Omega.{arith}
use borrow.Author.Tests.{lt-ltb, le-ltb, le-leb, lt-leb}
use lib.IntN.{pos, negsuc}
use lib.ListN.{length, length-append}
use Rattle.relief.specs.Heights.{height_of}
use Rattle.relief.specs.Outline.{digits_of, decimal_of, sign_of}

-- ---- the digits

digits-enough : (f g n : ℕ) → n < f → n < g → digits_of f n ≡ digits_of g n
digits-enough zero g n l m = absurd (omega arith)
digits-enough (suc f) zero n l m = absurd (omega arith)
digits-enough (suc f) (suc g) n l m = elim (dec_lt n 10) [
  | yes h ↦ rw (lt-ltb n 10 h)
  | no h ↦
      let e = digits-enough f g (n / 10) (omega arith) (omega arith) in
      rw (le-ltb n 10 (omega arith)) (ap (λ (l : List ℕ). l ++ ((48 + n % 10) ∷ [])) e)
]

pub decimal-small : (n : ℕ) → n < 10 → decimal_of n ≡ (48 + n) ∷ []
unfolding decimal_of
decimal-small n h = rw (lt-ltb n 10 h)

pub decimal-more : (n : ℕ) → 10 ≤ n → decimal_of n ≡ decimal_of (n / 10) ++ ((48 + n % 10) ∷ [])
unfolding decimal_of
decimal-more n h =
    rw (le-ltb n 10 h)
    (ap (λ (l : List ℕ). l ++ ((48 + n % 10) ∷ []))
    (digits-enough n (suc (n / 10)) (n / 10) (omega arith) (omega arith)))

-- ---- how many there are

pub decimal-one : (n : ℕ) → n < 10 → length (decimal_of n) ≡ 1
decimal-one n h = ap length (decimal-small n h)

pub length_more : (n : ℕ) → 10 ≤ n → length (decimal_of n) ≡ suc (length (decimal_of (n / 10)))
length_more n h =
    ap length (decimal-more n h) ∙ length-append (decimal_of (n / 10)) ((48 + n % 10) ∷ []) ∙ omega arith

pub decimal-many : (k : ℕ) {n : ℕ} → 10 ^ suc k ≤ n → n < 10 ^ suc (suc k) → length (decimal_of n) ≡ suc (suc k)
decimal-many zero {n} l m = length_more n l ∙ ap suc (decimal-one (n / 10) (omega arith))
decimal-many (suc k) {n} l m =
    let p = pow-suc 10 k in
    let q = pow-suc 10 (suc k) in
    let r = pow-suc 10 (suc (suc k)) in
    length_more n (omega arith) ∙ ap suc (decimal-many k {n = n / 10} (omega arith) (omega arith))

pub decimal-most : (k n : ℕ) → n < 10 ^ suc k → length (decimal_of n) ≤ suc k
decimal-most zero n h = omega (arith, decimal-one n h)
decimal-most (suc k) n h =
    let q = pow-suc 10 (suc k) in
    let ih = decimal-most k (n / 10) (omega arith) in
    elim (dec_lt n 10) [
      | yes l ↦ omega (arith, decimal-one n l)
      | no l ↦ omega (arith, length_more n (omega arith))
    ]

-- ---- heights

height-high : (l : ℕ) → 2147483648 ≤ l → height_of l ≡ pos (l - 2147483648)
unfolding height_of
height-high l h = rw (le-leb 2147483648 l h, height_of)

height-low : (l : ℕ) → l < 2147483648 → height_of l ≡ negsuc (2147483647 - l)
unfolding height_of
height-low l h = rw (lt-leb 2147483648 l h, height_of)

pub sign_high : (l : ℕ) → 2147483648 ≤ l → sign_of (height_of l) ≡ decimal_of (l - 2147483648)
sign_high l h = ap sign_of (height-high l h)

pub sign_low : (l : ℕ) → l < 2147483648 → sign_of (height_of l) ≡ 45 ∷ decimal_of (2147483648 - l)
sign_low l h =
    let e : suc (2147483647 - l) ≡ 2147483648 - l = omega arith in
    ap sign_of (height-low l h) ∙ ap (λ (n : ℕ). 45 ∷ decimal_of n) e
