-- Peaks under peaks, as links between cells in the work area. When all is linked, the parents' quarter leads from a
-- pass cell to its first peak and from there to the others, the pass quarter from a peak to the first pass under it and
-- from there to the others. A link that is no cell ends a chain.
--     Chain next n c l             from the number c on, the links `next` lead through just the cells of l
--     walk next n most c           the cells that they lead through, at most so many
--     passes_in s n q              the passes under the peak q
--     peaks_in s n x               the peaks of the pass x
--     children_in s n q            the entries of the peaks under q, by its passes
--     Threads s n peak pass        the peaks and passes are linked in the work area s
--     is_top s n c, tops_in s n k  c is the cell of a top; the entries of the tops among the first k cells
--     Kinned                       what linking leaves
-- Assumes nothing.
use Rattle.std.specs.Prelude.{◌≡◌, Bool, true, cond, ◌&&◌, List, [], ◌∷◌, ◌++◌, map, ℕ, zero, suc, ◌*◌, ◌≤◌, ◌<◌, eqb}
use Rattle.std.specs.Prelude.{ltb, length}
use Rattle.relief.specs.Peaks.{missing, key, Entry}
use Rattle.relief.specs.Outline.{Family}
use Rattle.relief.specs.Inner.{cut}
use Rattle.words.specs.Words.{word_at}
use Rattle.area.specs.Area.{Area, level_in, parent_in, pass_in, cell_in}

-- ---- chains

pub data Chain (next : ℕ → ℕ) (n : ℕ) : ℕ → List ℕ → Type 0 where
  end : {c : ℕ} → n ≤ c → Chain next n c []
  link : {c : ℕ} {l : List ℕ} → c < n → Chain next n (next c) l → Chain next n c (c ∷ l)

unfoldable pub walk : (ℕ → ℕ) → ℕ → ℕ → ℕ → List ℕ
walk next n zero c = []
walk next n (suc most) c = cond (ltb c n) (c ∷ walk next n most (next c)) []

unfoldable pub passes_in : List ℕ → ℕ → ℕ → List ℕ
passes_in s n q = walk (pass_in s n) n n (pass_in s n q)

unfoldable pub peaks_in : List ℕ → ℕ → ℕ → List ℕ
peaks_in s n x = walk (parent_in s n) n n (cell_in (parent_in s n x))

-- the test holds of every cell of the list
abbrev pub All : (ℕ → Bool) → List ℕ → Type 0
All f [] = Unit {0}
All f (x ∷ l) = (f x ≡ true) × All f l

-- `peak` tells the cells of listed peaks, `pass` the cells of their passes.
pub record Threads (s : List ℕ) (n : ℕ) (peak pass : ℕ → Bool) : Type 0 where
  pub area : Area s n
  pub down : (q : ℕ) → peak q ≡ true
      → (q < n) × Chain (pass_in s n) n (pass_in s n q) (passes_in s n q) × All pass (passes_in s n q)
  pub across : (x : ℕ) → pass x ≡ true
      → (x < n) × Chain (parent_in s n) n (cell_in (parent_in s n x)) (peaks_in s n x) × All peak (peaks_in s n x)

-- ---- as entries

abbrev pub child_entry : (ℕ → ℕ) → ℕ → ℕ → Entry
child_entry level x p = record { cell = p; level = level p; key = key (level x) x }

abbrev pub top_entry : (ℕ → ℕ) → ℕ → Entry
top_entry level c = record { cell = c; level = level c; key = missing }

unfoldable pub under_passes : (ℕ → ℕ) → (ℕ → List ℕ) → List ℕ → List Entry
under_passes level peaks [] = []
under_passes level peaks (x ∷ l) = map (child_entry level x) (peaks x) ++ under_passes level peaks l

abbrev pub children_in : List ℕ → ℕ → ℕ → List Entry
children_in s n q = under_passes (level_in s) (peaks_in s n) (passes_in s n q)

-- In the parents' quarter 2^23 is the link of a top, which hangs under no pass.
unfoldable pub is_top : List ℕ → ℕ → ℕ → Bool
is_top s n c = ltb 0 (level_in s c) && eqb (parent_in s n c) 8388608

unfoldable pub tops_in : List ℕ → ℕ → ℕ → List Entry
tops_in s n zero = []
tops_in s n (suc k) = tops_in s n k ++ cond (is_top s n k) (top_entry (level_in s) k ∷ []) []

-- ---- the whole

-- t is s with the peaks listed at T linked.
pub record Kinned (touch : ℕ → ℕ → Type 0) (s t : List ℕ) (n T : ℕ) : Type 0 where
  pub peak : ℕ → Bool
  pub pass : ℕ → Bool
  pub threads : Threads t n peak pass
  pub family : Family touch (cut n (level_in s)) T
  pub tops : family.tops ≡ tops_in t n n
  pub top_peak : (c : ℕ) → c < n → is_top t n c ≡ true → peak c ≡ true
  pub children : (q : ℕ) → peak q ≡ true → family.children q ≡ children_in t n q
  pub front : (j : ℕ) → j < 2 * n → word_at t j ≡ word_at s j
  pub back : (j : ℕ) → 4 * n ≤ j → word_at t j ≡ word_at s j
  pub len : length t ≡ length s
