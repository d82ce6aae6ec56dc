-- 32-bit numbers in lent bytes: "all is little-endian". And bytes laid over others.
--     word_at s i        the number at the bytes 4 i to 4 i + 3 of s
--     Stored s t i v     t is s with the number v at the i-th place, and nothing else changed
--     over s at bs       s with the bytes bs from the place at on
-- Assumes nothing.
use Rattle.std.specs.Prelude.{◌≡◌, List, ◌++◌, ℕ, ◌+◌, ◌*◌, length, get_or, take, drop}

unfoldable pub word_at : List ℕ → ℕ → ℕ
word_at s i =
    get_or s (4 * i) 0 + get_or s (4 * i + 1) 0 * 256 + get_or s (4 * i + 2) 0 * 65536 + get_or s (4 * i + 3) 0 *
    16777216

pub record Stored (s t : List ℕ) (i v : ℕ) : Type 0 where
  pub here : word_at t i ≡ v
  pub there : (j : ℕ) → (j ≡ i → ⊥) → word_at t j ≡ word_at s j
  pub len : length t ≡ length s

-- What stands before and behind stays.
unfoldable pub over : List ℕ → ℕ → List ℕ → List ℕ
over s at bs = take at s ++ (bs ++ drop (at + length bs) s)
