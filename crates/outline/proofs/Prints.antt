-- Laws of the printers, on plain values.
--     linked-hung                 what is known of a peak at any level
--     peak-last, peak-first       the text of a peak at the last level, and what that of another begins with
--     Passing s n k depth q ..    the invariant of the loop along the passes under q: those still ahead are linked, and
--                                 just their texts are still to be printed
--     passing-start, passing-turn, passing_step, passing-done    its laws
--     Peaking s n k depth x ..    the same of the loop along the peaks of the pass x
--     peaking-line, peaking-turn, peaking-step, peaking-done    its laws
-- A turn prints the first text that is left (`Left`), to a sink that `fits` and `gives` tell of. Assumes nothing.
use mathlib.Core.Path.{◌≡◌, refl}
use mathlib.Core.List.{List, [], ◌∷◌, ◌++◌, append_assoc}
use Prim.Native.Nat.{ℕ, zero, suc, ◌+◌, ◌<◌}
use native.Mathlib.Omega.{arith}
use lib.ListN.{length}
use Rattle.relief.specs.Outline.{peak_line, pass_line, each}
use Rattle.area.specs.Area.{level_in}
use Rattle.lines.specs.Sinks.{IsSink}
use Rattle.lines.proofs.Printing.{Left, left-start, left-fits, left_step, left-done}
use Rattle.kin.specs.Kin.{passes_in, peaks_in, children_in}
use Rattle.outline.specs.Inner.{Every, Strung, Hung, Linked, peak_print, pass_print, PeakPrinting, PassPrinting}

each_none : {A : Type 0} (f : A → List ℕ) → each f [] ≡ []
unfolding each
each_none f = refl

each_more : {A : Type 0} (f : A → List ℕ) (x : A) (l : List A) → each f (x ∷ l) ≡ f x ++ each f l
unfolding each
each_more f x l = refl

-- ---- a peak

pub linked-hung : (left : ℕ) {s : List ℕ} {n q : ℕ} → Linked s n left q → Hung s n q
linked-hung zero h = h
linked-hung (suc left) h = h.0

linked-deep : (s : List ℕ) (n q : ℕ) {left k : ℕ} → left ≡ suc k → Linked s n left q
    → Every (λ x. Every (Linked s n k) (peaks_in s n x)) (passes_in s n q)
linked-deep s n q e h = (rw e at h).1

module _ (s : List ℕ) (n depth : ℕ) {q cell level : ℕ} (here : cell ≡ q) (high : level ≡ level_in s q) where
  pub peak-last : {left out : ℕ} → left ≡ 0 → out ≡ length (children_in s n q)
      → peak_line depth cell level out ≡ peak_print s n left depth q
  unfolding peak_print
  peak-last e o = rw (e, here, high, o)

  pub peak-first : {left : ℕ} (k : ℕ) → left ≡ suc k
      → peak_print s n left depth q
      ≡ peak_line depth cell level 0 ++ each (pass_print s n (peak_print s n k (suc depth)) depth) (passes_in s n q)
  unfolding peak_print
  peak-first k e = rw (e, here, high)

-- ---- the passes under a peak

abbrev pub pass_text : List ℕ → ℕ → ℕ → ℕ → ℕ → List ℕ
pass_text s n k depth = pass_print s n (peak_print s n k (suc depth)) depth

module _ {S : Type 0} (fits : S → ℕ → Type 0) (gives : S → List ℕ → S → Type 0) (s : List ℕ) (n k depth : ℕ) where
  -- at first the sink is z, and now t
  pub record Passing (q : ℕ) (z t : S) (rest : List ℕ) : Type 0 where
    pub strung : Every (Strung s n) rest
    pub linked : Every (λ x. Every (Linked s n k) (peaks_in s n x)) rest
    pub text : Left fits gives z (each (pass_text s n k depth) (passes_in s n q)) t (each (pass_text s n k depth) rest)

module _ {S : Type 0} {fits : S → ℕ → Type 0} {gives : S → List ℕ → S → Type 0} (sink : IsSink fits gives)
    {s : List ℕ} {n k depth q : ℕ} {z : S} where
  pub passing-start : {left : ℕ} → left ≡ suc k → Linked s n left q
      → fits z (length (each (pass_text s n k depth) (passes_in s n q))) → {rest : List ℕ} → rest ≡ passes_in s n q
      → Passing fits gives s n k depth q z z rest
  passing-start {left} e h enough first = rw first (record {
    strung = (linked-hung left h).strung;
    linked = linked-deep s n q e h;
    text = left-start sink enough refl;
  })

  pub passing-done : {t : S} {rest : List ℕ} → Passing fits gives s n k depth q z t rest → rest ≡ []
      → gives z (each (pass_text s n k depth) (passes_in s n q)) t
  passing-done g e =
      let l = rw e at g.text in left-done sink (rw (each_none (pass_text s n k depth)) at l)

  module _ {t : S} {rest : List ℕ} (g : Passing fits gives s n k depth q z t rest) {x : ℕ} {tail : List ℕ}
      (e : rest ≡ x ∷ tail) where
    passing-now : Passing fits gives s n k depth q z t (x ∷ tail)
    passing-now = rw e at g

    turn-pass : Left fits gives z (each (pass_text s n k depth) (passes_in s n q)) t
        (pass_text s n k depth x ++ each (pass_text s n k depth) tail)
    turn-pass = let l = passing-now.text in rw (each_more (pass_text s n k depth)) at l

    pub passing-turn : depth + k < 64 → PassPrinting s n (fits t) x depth k
    passing-turn few = record {
      strung = passing-now.strung.0;
      linked = passing-now.linked.0;
      enough = left-fits sink (pass_text s n k depth x) _ turn-pass;
      few = few;
    }

    pub passing_step : {u : S} → gives t (pass_text s n k depth x) u → Passing fits gives s n k depth q z u tail
    passing_step p = record {
      strung = passing-now.strung.1;
      linked = passing-now.linked.1;
      text = left_step sink (pass_text s n k depth x) _ turn-pass p;
    }

-- ---- the peaks of a pass

-- the line of the pass, and the text of one of its peaks
abbrev peak_text : List ℕ → ℕ → ℕ → ℕ → ℕ → ℕ → List ℕ
peak_text s n k depth x p = pass_line depth x (level_in s x) ++ peak_print s n k (suc depth) p

module _ {S : Type 0} (fits : S → ℕ → Type 0) (gives : S → List ℕ → S → Type 0) (s : List ℕ) (n k depth : ℕ) where
  pub record Peaking (x : ℕ) (z t : S) (rest : List ℕ) : Type 0 where
    pub linked : Every (Linked s n k) rest
    pub text : Left fits gives z (each (peak_text s n k depth x) (peaks_in s n x)) t
        (each (peak_text s n k depth x) rest)

module _ {S : Type 0} {fits : S → ℕ → Type 0} {gives : S → List ℕ → S → Type 0} (sink : IsSink fits gives)
    {s : List ℕ} {n k depth x : ℕ} {z : S} where
  pub peaking-done : {t : S} {rest : List ℕ} → Peaking fits gives s n k depth x z t rest → rest ≡ []
      → gives z (pass_text s n k depth x) t
  peaking-done g e = let l = rw e at g.text in left-done sink (rw (each_none (peak_text s n k depth x)) at l)

  module _ {t : S} {rest : List ℕ} (g : Peaking fits gives s n k depth x z t rest) {p : ℕ} {tail : List ℕ}
      (e : rest ≡ p ∷ tail) {cell level : ℕ} (here : cell ≡ x) (high : level ≡ level_in s x) where
    peaking-now : Peaking fits gives s n k depth x z t (p ∷ tail)
    peaking-now = rw e at g

    line-left : Left fits gives z (pass_text s n k depth x) t
        (pass_line depth cell level ++ (peak_print s n k (suc depth) p ++ each (peak_text s n k depth x) tail))
    line-left =
        let l = peaking-now.text in
        rw (here, high) (rw (each_more (peak_text s n k depth x), append_assoc) at l)

    pub peaking-line : fits t (length (pass_line depth cell level))
    peaking-line = left-fits sink (pass_line depth cell level) _ line-left

    module _ {u : S} (line : gives t (pass_line depth cell level) u) {d : ℕ} (deeper : d ≡ suc depth) where
      turn-peak : Left fits gives z (pass_text s n k depth x) u
          (peak_print s n k d p ++ each (peak_text s n k depth x) tail)
      turn-peak = rw deeper (left_step sink (pass_line depth cell level) _ line-left line)

      pub peaking-turn : depth + k < 64 → PeakPrinting s n (fits u) p d k
      peaking-turn few = record {
        linked = peaking-now.linked.0;
        enough = left-fits sink (peak_print s n k d p) _ turn-peak;
        few = omega arith;
      }

      pub peaking-step : {v : S} → gives u (peak_print s n k d p) v → Peaking fits gives s n k depth x z v tail
      peaking-step peak = record {
        linked = peaking-now.linked.1;
        text = left_step sink (peak_print s n k d p) _ turn-peak peak;
      }
