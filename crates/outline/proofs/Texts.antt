-- The text of the definition, by the children of each peak, is the text by the links: the children of a peak are its
-- passes' peaks, one pass behind the other, so that a text for each child is one for each peak of each pass.
--     each_append, each_map, each_all     texts of joined lists, of what a list is turned into, texts that agree
--     peak-text                           the text of a peak is the one by the links
--     tops-text, outline-text             the text of the first tops, and of all, is the one by the links
--     kinned-text, kinned-outline         so the text by the links that linking leaves is the outline
-- Assumes nothing.
use mathlib.Core.Path.{◌≡◌, refl, sym, ap, ap₂, ◌∙◌}
use mathlib.Core.Bool.{Bool, true, false, cond}
use mathlib.Core.List.{List, [], ◌∷◌, ◌++◌, map, append_assoc, append-nil}
use Prim.Native.Nat.{ℕ, zero, suc, ◌-◌, ◌≤◌, ◌<◌}
use native.Mathlib.Omega.{arith}
use lib.ListN.{length}
use Rattle.relief.specs.Peaks.{Entry, floor_of, pass_cell_of}
use Rattle.relief.specs.Inner.{cut}
use Rattle.relief.specs.Outline.{peak_line, pass_line, each, peak_text, outline_text, Outline}
use Rattle.area.specs.Area.{level_in}
use Rattle.kin.specs.Kin.{passes_in, peaks_in, All, Threads, child_entry, top_entry, under_passes, children_in}
use Rattle.kin.specs.Kin.{is_top, tops_in, Kinned}
use Rattle.outline.specs.Inner.{pass_print, peak_print, tops_print}

-- ---- texts of lists

pub each_append : {A : Type 0} (f : A → List ℕ) (l m : List A) → each f (l ++ m) ≡ each f l ++ each f m
unfolding each
each_append f [] m = refl
each_append f (x ∷ l) m =
    ap (λ (t : List ℕ). f x ++ t) (each_append f l m) ∙ sym (append_assoc (f x) (each f l) (each f m))

pub each_map : {A B : Type 0} (f : B → List ℕ) (g : A → B) (l : List A) → each f (map g l) ≡ each (λ x. f (g x)) l
unfolding each
each_map f g [] = refl
each_map f g (x ∷ l) = ap (λ (t : List ℕ). f (g x) ++ t) (each_map f g l)

-- a list of one, or of none
each-cond : {A : Type 0} (f : A → List ℕ) (b : Bool) (x : A) → each f (cond b (x ∷ []) []) ≡ cond b (f x) []
unfolding each
each-cond f true x = append-nil (f x)
each-cond f false x = refl

each_all : (test : ℕ → Bool) (f g : ℕ → List ℕ) → ((x : ℕ) → test x ≡ true → f x ≡ g x) → (l : List ℕ) → All test l
    → each f l ≡ each g l
unfolding each
each_all test f g h [] a = refl
each_all test f g h (x ∷ l) a = ap₂ (λ (t u : List ℕ). t ++ u) (h x a.0) (each_all test f g h l a.1)

-- ---- the text by the links

-- the line of the pass, and the text of the child that it leads down to
abbrev pub down : ℕ → (Entry → List ℕ) → Entry → List ℕ
down depth text d = pass_line depth (pass_cell_of d.key) (floor_of d.key) ++ text d

-- The text of a peak with a level less below it is known to be the one by the links.
module _ {s : List ℕ} {n : ℕ} {peak pass : ℕ → Bool} (t : Threads s n peak pass) (depth : ℕ) (text : Entry → List ℕ)
    (print : ℕ → List ℕ)
    (same : (e : Entry) → e.level ≡ level_in s e.cell → peak e.cell ≡ true → text e ≡ print e.cell) where
  pass-text : (x : ℕ) → pass x ≡ true
      → each (down depth text) (map (child_entry (level_in s) x) (peaks_in s n x)) ≡ pass_print s n print depth x
  pass-text x e =
      each_map (down depth text) (child_entry (level_in s) x) (peaks_in s n x)
      ∙ each_all peak (λ p. down depth text (child_entry (level_in s) x p))
      (λ p. pass_line depth x (level_in s x) ++ print p)
      (λ p h. ap (λ (u : List ℕ). pass_line depth x (level_in s x) ++ u) (same (child_entry (level_in s) x p) refl h))
      (peaks_in s n x) (t.across x e).2

  passes-text : (l : List ℕ) → All pass l
      → each (down depth text) (under_passes (level_in s) (peaks_in s n) l) ≡ each (pass_print s n print depth) l
  unfolding each under_passes
  passes-text [] a = refl
  passes-text (x ∷ l) a =
      each_append (down depth text) (map (child_entry (level_in s) x) (peaks_in s n x))
      (under_passes (level_in s) (peaks_in s n) l)
      ∙ ap₂ (λ (u v : List ℕ). u ++ v) (pass-text x a.0) (passes-text l a.1)

module _ {s : List ℕ} {n : ℕ} {peak pass : ℕ → Bool} (t : Threads s n peak pass) (children : ℕ → List Entry)
    (same : (q : ℕ) → peak q ≡ true → children q ≡ children_in s n q) where
  pub peak-text : (left depth : ℕ) (e : Entry) → e.level ≡ level_in s e.cell → peak e.cell ≡ true
      → peak_text children left depth e ≡ peak_print s n left depth e.cell
  unfolding peak_text peak_print
  peak-text zero depth e l p =
      ap₂ (λ (x : ℕ) (d : List Entry). peak_line depth e.cell x (length d)) l (same e.cell p)
  peak-text (suc left) depth e l p =
      ap₂ (λ (x : ℕ) (u : List ℕ). peak_line depth e.cell x 0 ++ u) l
      (ap (each (down depth (peak_text children left (suc depth)))) (same e.cell p)
      ∙ passes-text t depth (peak_text children left (suc depth)) (peak_print s n left (suc depth))
      (peak-text left (suc depth)) (passes_in s n e.cell) (t.down e.cell p).2)

-- ---- tops

module _ {s : List ℕ} {n : ℕ} {peak pass : ℕ → Bool} (t : Threads s n peak pass) (children : ℕ → List Entry)
    (same : (q : ℕ) → peak q ≡ true → children q ≡ children_in s n q)
    (top : (c : ℕ) → c < n → is_top s n c ≡ true → peak c ≡ true) where
  tops-text : (left k : ℕ) → k ≤ n → each (peak_text children left 1) (tops_in s n k) ≡ tops_print s n left k
  unfolding each tops_in tops_print
  tops-text left zero h = refl
  tops-text left (suc k) h =
      each_append (peak_text children left 1) (tops_in s n k) (cond (is_top s n k) (top_entry (level_in s) k ∷ []) [])
      ∙ ap₂ (λ (u v : List ℕ). u ++ v) (tops-text left k (omega arith))
      (each-cond (peak_text children left 1) (is_top s n k) (top_entry (level_in s) k) ∙ one (is_top s n k) refl)
    where
      one : (b : Bool) → is_top s n k ≡ b
          → cond b (peak_text children left 1 (top_entry (level_in s) k)) [] ≡ cond b (peak_print s n left 1 k) []
      one true e = peak-text t children same left 1 (top_entry (level_in s) k) refl (top k (omega arith) e)
      one false e = refl

  pub outline-text : (levels : ℕ) → outline_text children levels (tops_in s n n) ≡ tops_print s n (levels - 1) n
  outline-text levels = tops-text (levels - 1) n (omega arith)

module _ {touch : ℕ → ℕ → Type 0} {s t : List ℕ} {n T : ℕ} (k : Kinned touch s t n T) (levels : ℕ) where
  pub kinned-text : tops_print t n (levels - 1) n ≡ outline_text k.family.children levels k.family.tops
  kinned-text = sym (ap (outline_text k.family.children levels) k.tops
      ∙ outline-text k.threads k.family.children k.children k.top_peak levels)

  pub kinned-outline : Outline touch (cut n (level_in s)) T levels (tops_print t n (levels - 1) n)
  kinned-outline = record { family = k.family; written = kinned-text }
