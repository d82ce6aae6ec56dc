-- What the contracts below the promises say, and no promise does.
--     Decides A b              the test b tells whether A holds
--     cut limit level          levels of the cells below the limit, and 0 behind it
--     Better level c x         c comes before x: higher, or as high and earlier
--     Best touch level k x     no cell that x reaches above k is better than x
--     row_below f n            the cells below n that pass the test f, in reading order
-- Assumes nothing.
use Rattle.std.specs.Prelude.{◌≡◌, Bool, true, false, cond, List, [], ◌∷◌, ◌++◌, ℕ, zero, suc, ◌<◌, ltb}
use Rattle.relief.specs.Peaks.{Island}

pub record Decides (A : Type 0) (b : Bool) : Type 0 where
  pub holds : b ≡ true → A
  pub fails : b ≡ false → A → ⊥

unfoldable pub cut : ℕ → (ℕ → ℕ) → ℕ → ℕ
cut limit level c = cond (ltb c limit) (level c) 0

pub data Better (level : ℕ → ℕ) (c x : ℕ) : Type 0 where
  above : level x < level c → Better level c x
  before : level c ≡ level x → c < x → Better level c x

abbrev pub Best : (ℕ → ℕ → Type 0) → (ℕ → ℕ) → ℕ → ℕ → Type 0
Best touch level k x = (c : ℕ) → Island touch level x k c → Better level c x → ⊥

unfoldable pub row_below : (ℕ → Bool) → ℕ → List ℕ
row_below f zero = []
row_below f (suc n) = row_below f n ++ cond (f n) (n ∷ []) []
