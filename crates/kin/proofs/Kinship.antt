-- Peaks hung and passes threaded are peaks linked under peaks. The passes under a listed peak are those whose noted top
-- it is, and the peaks of such a pass are its children; the order has the passes as the outline wants them.
--     children-all     under each peak stand its children
--     tops-order       and the tops are told by their links
--     kin-linked       what linking leaves
--     kin-blank        where all cells are blank, nothing is to be done
-- Assumes nothing.
use mathlib.Core.Path.{◌≡◌, refl, sym, ◌∙◌, subst}
use mathlib.Core.Bool.{Bool, true, false, cond}
use mathlib.Core.List.{List, []}
use Prim.Native.Nat.{ℕ, ◌+◌, ◌*◌, ◌<◌}
use native.Mathlib.Omega.{arith}
use lib.Dec.{eqb}
use Rattle.relief.specs.Peaks.{Entry, Member, InReadingOrder}
use Rattle.relief.specs.Outline.{Child, Top, InPassOrder}
use Rattle.relief.specs.Inner.{Decides, cut, Better}
use Rattle.relief.proofs.Tests.{split, test, passes, eq-decides, lt-decides, and-decides, decides-iff}
use Rattle.relief.proofs.Flats.{Terrain}
use Rattle.words.proofs.Laws.{Bytes, word_below}
use Rattle.area.specs.Area.{level_in, parent_in, prio}
use Rattle.area.proofs.Priority.{prio-better, prio-of}
use Rattle.survey.specs.Answers.{TopsNoted}
use Rattle.kin.specs.Kin.{child_entry, top_entry, passes_in, peaks_in, children_in, is_top, tops_in, Threads, Kinned}
use Rattle.kin.specs.Inner.{Hung, Threaded}
use Rattle.kin.proofs.Chains.{all_of, sorted-mono}
use Rattle.kin.proofs.PeaksHung.{hung-blank}
use Rattle.kin.proofs.PassesThreaded.{threaded-start}
use Rattle.kin.proofs.ListedCells.{listed-root}
use Rattle.kin.proofs.Uppers.{hangs-child, child-hangs, upper-listed, root-top, top-root}
use Rattle.kin.proofs.Children.{under-member, under-stand, under-falling, tops-member, tops-stand, tops-rising}
use Rattle.kin.proofs.LinkedRows.{PeakHere, is_peak, is_pass, peak-decides, pass-decides, hung-pass, under-pass}
use Rattle.kin.proofs.LinkedRows.{pass-under, passes-walked, peaks-walked}

module _ {touch : ℕ → ℕ → Type 0} {touch? : ℕ → ℕ → Bool} {s t u : List ℕ} {n m T : ℕ}
    (ter : Terrain touch touch? (cut n (level_in s)) n) (w : TopsNoted touch s n m) (h : Hung s t n T 0)
    (g : Threaded t u n m 0) (bytes : Bytes u) where
  abbrev L : ℕ → ℕ
  L = cut n (level_in s)

  level-same : (c : ℕ) → c < n → level_in u c ≡ level_in s c
  level-same c l = g.other c (λ a b. omega arith) ∙ h.kept.front c (omega arith)

  -- ---- children

  child-level : {x p : ℕ} → x < n → p < n → child_entry (level_in u) x p ≡ child_entry (level_in s) x p
  child-level {x} {p} l k = let e = level-same x l in let f = level-same p k in rw (e, f)

  better-of : {x y : ℕ} → x < n → y < n → prio (level_in t) x < prio (level_in t) y → Better (level_in u) x y
  better-of {x} {y} l k o =
      let a = w.area.few in
      prio-better (word_below u bytes) (omega arith) (omega arith)
      (let e = prio-of (level_in u) (level_in t) x (g.other x (λ a b. omega arith)) in
      let f = prio-of (level_in u) (level_in t) y (g.other y (λ a b. omega arith)) in
      omega arith)

  children-order : (q : ℕ) → PeakHere s n T q → InPassOrder (Child touch L T q) (children_in u n q)
  children-order q i =
      let r = passes-walked ter w h g q i in
      record {
        falling = under-falling (level_in u) (peaks_in u n) (passes_in u n q)
            (sorted-mono (passes_in u n q)
            (λ x y a b. better-of
            (under-pass ter w h (r.sound x a)).0.0.0 (under-pass ter w h (r.sound y b)).0.0.0)
            r.sorted)
            (λ x o. (peaks-walked ter w h g x (under-pass ter w h (r.sound x o)).0).sorted);
        sound = λ e k.
            let (x, p, a, b, f) = under-member (level_in u) (peaks_in u n) (passes_in u n q) e k in
            let (z, v) = under-pass ter w h (r.sound x a) in
            let d = (peaks-walked ter w h g x z).sound p b in
            subst (Child touch L T q) (sym (f ∙ child-level z.0.0 d.cell))
            (subst (λ (c : ℕ). Child touch L T c (child_entry (level_in s) x p)) v (hangs-child ter w T d));
        complete = λ e c.
            let (x, d, v, f) = child-hangs ter w T c in
            let z = hung-pass ter w h d in
            subst (λ (y : Entry). Member y (children_in u n q)) (child-level z.0.0 d.cell ∙ sym f)
            (under-stand (level_in u) (peaks_in u n) (passes_in u n q) x e.cell
            (r.complete x (pass-under ter w h z v)) ((peaks-walked ter w h g x z).complete e.cell d));
      }

  -- a peak that is not listed has none
  abbrev children : ℕ → List Entry
  children q = cond (is_peak s n T q) (children_in u n q) []

  children-all : (q : ℕ) → InPassOrder (Child touch L T q) (children q)
  children-all q = go (is_peak s n T q) (peak-decides s n T q)
    where
      go : (b : Bool) → Decides (PeakHere s n T q) b → InPassOrder (Child touch L T q) (cond b (children_in u n q) [])
      go true d = children-order q (d.holds refl)
      go false d = record {
        falling = tt;
        sound = λ e k. absurd k;
        complete = λ e c. absurd (d.fails refl (upper-listed ter w T c));
      }

  -- ---- tops

  top-told : (c : ℕ) → c < n → Decides ((0 < level_in s c) × (parent_in s n c ≡ c)) (is_top u n c)
  unfolding is_top
  top-told c l =
      let e = level-same c l in
      let f : parent_in u n c ≡ parent_in t n c = g.other (2 * n + c) (λ a b. omega arith) in
      decides-iff
      (λ (a, b). (
        omega arith,
        split (test (eqb (parent_in s n c) c)) (eq-decides (parent_in s n c) c).holds
            (λ k. let j = h.lesser c l (omega arith) ((eq-decides (parent_in s n c) c).fails k) in absurd
            (omega arith)),
      ))
      (λ (a, b). (omega arith, f ∙ h.tops c (omega arith) l a b))
      (and-decides (lt-decides 0 (level_in u c)) (eq-decides (parent_in u n c) 8388608))

  top-level : (c : ℕ) → c < n → top_entry (level_in u) c ≡ top_entry (level_in s) c
  top-level c l = let e = level-same c l in rw e

  tops-order : InReadingOrder (Top touch L T) (tops_in u n n)
  tops-order = record {
    rising = tops-rising u n n;
    sound = λ e k.
        let (c, l, f, q) = tops-member u n n e k in
        let (a, b) = (top-told c l).holds f in
        subst (Top touch L T) (sym (q ∙ top-level c l)) (root-top ter w T c l a b);
    complete = λ e k.
        let (l, a, b, q) = top-root ter w T e k in
        subst (λ (y : Entry). Member y (tops_in u n n)) (top-level e.cell l ∙ sym q)
        (tops-stand u n n e.cell l (passes (top-told e.cell l) (a, b)));
  }

  -- ---- all

  kin-threads : Threads u n (is_peak s n T) (is_pass s t n)
  kin-threads = record {
    area = record {
      few = w.area.few;
      room = let e = g.len in let f = h.kept.len in let a = w.area.room in omega arith;
    };
    down = λ q e.
        let i = (peak-decides s n T q).holds e in
        let r = passes-walked ter w h g q i in (
          i.0,
          r.chain,
          all_of (is_pass s t n) (passes_in u n q)
              (λ x o. passes (pass-decides s t n x) (under-pass ter w h (r.sound x o)).0),
        );
    across = λ x e.
        let i = (pass-decides s t n x).holds e in
        let r = peaks-walked ter w h g x i in (
          i.0.0,
          r.chain,
          all_of (is_peak s n T) (peaks_in u n x)
              (λ p o. let d = r.sound p o in passes (peak-decides s n T p) (d.cell, d.peak)),
        );
  }

  pub kin-linked : Kinned touch s u n T
  kin-linked = record {
    peak = is_peak s n T;
    pass = is_pass s t n;
    threads = kin-threads;
    family = record {
      tops = tops_in u n n;
      children = children;
      tops_right = tops-order;
      children_right = children-all;
    };
    tops = refl;
    top_peak = λ c l e.
        let (a, b) = (top-told c l).holds e in passes (peak-decides s n T c) (l, listed-root s n T c a b);
    children = λ q e. rw e;
    front = λ j l. g.other j (λ a b. omega arith) ∙ h.kept.front j l;
    back = λ j l. g.other j (λ a b. omega arith) ∙ h.kept.back j l;
    len = g.len ∙ h.kept.len;
  }

-- ---- nothing

pub kin-blank : {touch : ℕ → ℕ → Type 0} {touch? : ℕ → ℕ → Bool} {s : List ℕ} {n m : ℕ} (T : ℕ)
    → Terrain touch touch? (cut n (level_in s)) n → TopsNoted touch s n m → m ≡ 0 → Bytes s → Kinned touch s s n T
kin-blank {s = s} {n = n} {m = m} T ter w e bytes =
    kin-linked ter w (hung-blank s n T none) (subst (Threaded s s n m) e (threaded-start s n m)) bytes
  where
    none : (c : ℕ) → c < n → 0 < level_in s c → ⊥
    none c l h = let (i, k, f) = w.ordered.onto c l h in omega arith
