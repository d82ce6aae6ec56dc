-- The rows that are left when the peaks are hung and the passes threaded: which cells are passes, and what stands under
-- a peak. A pass is marked, and no peak is; its noted top, the peak that it is threaded under, is a listed one.
--     PeakHere, is_peak        c is the cell of a listed peak, and a test of it
--     PassHere, is_pass        c is the cell of a pass of one, and a test of it
--     hung-pass               a cell at which a peak hangs is a pass
--     rows-threading          what threading the passes asks
--     under-pass, pass-under  the passes threaded under a peak are those whose noted top it is
--     passes-walked, peaks-walked     the rows, as they are walked
-- Assumes nothing.
use mathlib.Core.Path.{◌≡◌, sym, ◌∙◌, ap, subst}
use mathlib.Core.Bool.{Bool, true, false, ◌&&◌}
use mathlib.Core.List.{List}
use Prim.Native.Nat.{ℕ, ◌+◌, ◌*◌, ◌<◌}
use native.Mathlib.Omega.{arith}
use lib.Dec.{ltb}
use Rattle.relief.specs.Inner.{Decides, cut}
use Rattle.relief.proofs.Tests.{split, test, true-not-false, lt-decides, and-decides}
use Rattle.relief.proofs.Flats.{Terrain}
use Rattle.area.specs.Area.{level_in, parent_in, pass_in, pass_of, cell_in, mark_in, prio}
use Rattle.sweep.proofs.Orders.{ordered_same}
use Rattle.survey.specs.Answers.{TopsNoted}
use Rattle.kin.specs.Kin.{passes_in, peaks_in}
use Rattle.kin.specs.Inner.{listed, Hangs, Hung, Under, Threading, Threaded}
use Rattle.kin.proofs.Chains.{chain-none, Walked, row_same, row_walked}
use Rattle.kin.proofs.Numbers.{first_plain, first-marked}
use Rattle.kin.proofs.Uppers.{pass_below, pass-land, hangs-slope, hangs-upper}

-- ---- peaks and passes

abbrev pub PeakHere : List ℕ → ℕ → ℕ → ℕ → Type 0
PeakHere s n T c = (c < n) × (listed s n T c ≡ true)

abbrev pub is_peak : List ℕ → ℕ → ℕ → ℕ → Bool
is_peak s n T c = ltb c n && listed s n T c

abbrev pub PassHere : List ℕ → List ℕ → ℕ → ℕ → Type 0
PassHere s t n c = ((c < n) × (0 < level_in s c)) × (mark_in (parent_in t n c) ≡ true)

abbrev pub is_pass : List ℕ → List ℕ → ℕ → ℕ → Bool
is_pass s t n c = (ltb c n && ltb 0 (level_in s c)) && mark_in (parent_in t n c)

true-decides : (b : Bool) → Decides (b ≡ true) b
true-decides b = record { holds = λ e. e; fails = λ e f. true-not-false f e }

pub peak-decides : (s : List ℕ) (n T c : ℕ) → Decides (PeakHere s n T c) (is_peak s n T c)
peak-decides s n T c = and-decides (lt-decides c n) (true-decides (listed s n T c))

pub pass-decides : (s t : List ℕ) (n c : ℕ) → Decides (PassHere s t n c) (is_pass s t n c)
pass-decides s t n c =
    and-decides (and-decides (lt-decides c n) (lt-decides 0 (level_in s c)))
    (true-decides (mark_in (parent_in t n c)))

module _ {touch : ℕ → ℕ → Type 0} {touch? : ℕ → ℕ → Bool} {s t : List ℕ} {n m T : ℕ}
    (ter : Terrain touch touch? (cut n (level_in s)) n) (w : TopsNoted touch s n m) (h : Hung s t n T 0) where
  -- a pass is no peak, and so it has its noted top
  pass-slope : {c : ℕ} → PassHere s t n c → listed s n T c ≡ false
  pass-slope {c} ((l, k), e) =
      split (test (listed s n T c)) (λ f. true-not-false e (h.plain c l f)) (λ f. f)

  pass-upper : {c : ℕ} → PassHere s t n c → pass_of t n c ≡ pass_of s n c
  pass-upper {c} p = ap cell_in (h.passes_left c p.0.0 (λ g. true-not-false g (pass-slope p)))

  pub hung-pass : {x d : ℕ} → Hangs s n T x d → PassHere s t n x
  hung-pass {x} {d} k =
      let l = pass_below ter w T k in
      let g = pass-land ter w T k in
      let r = h.row x l g (hangs-slope ter w T k) in
      let a = w.area.few in (
        (l, g),
        split (test (mark_in (parent_in t n x))) (λ e. e)
            (λ e. absurd (chain-none r.chain (let z = first_plain (parent_in t n x) e in omega arith) d
            (r.complete d (k, omega arith)))),
      )

  level-same : (c : ℕ) → c < n → level_in t c ≡ level_in s c
  level-same c l = h.kept.front c (omega arith)

  pub rows-threading : Threading t n m
  rows-threading = record {
    area = record { few = w.area.few; room = let e = h.kept.len in let a = w.area.room in omega arith };
    ordered = ordered_same w.ordered
        (λ i l. let f = w.ordered.few in ap cell_in (h.kept.front (n + i) (omega arith))) level-same;
    uppers = λ x l k e.
        let p : PassHere s t n x = ((l, let f = level-same x l in omega arith), e) in
        let (d, i) = h.marked x l p.0.1 (pass-slope p) e in
        let (b, f) = hangs-upper ter w T i in
        let q = pass-upper p in
        (omega arith, ap (λ (c : ℕ). mark_in (parent_in t n c)) q ∙ h.plain (pass_of s n x) b f);
  }

  pub under-pass : {q x : ℕ} → Under t n m 0 q x → PassHere s t n x × (pass_of s n x ≡ q)
  under-pass {q} {x} v =
      let (l, k) = rows-threading.ordered.inside v.place v.to in
      let f = ap (level_in t) v.cell in
      let c : x < n = subst (λ (z : ℕ). z < n) v.cell l in
      let p : PassHere s t n x = ((c, let i = level-same x c in omega arith), v.pass) in
      (p, sym (pass-upper p) ∙ v.upper)

  pub pass-under : {q x : ℕ} → PassHere s t n x → pass_of s n x ≡ q → Under t n m 0 q x
  pass-under {q} {x} p e =
      let ((l, k), f) = p in
      let (i, j, o) = rows-threading.ordered.onto x l (let z = level-same x l in omega arith) in
      record { place = i; from = omega arith; to = j; cell = o; pass = f; upper = pass-upper p ∙ e }

  -- ---- the rows, as they are walked

  module _ {u : List ℕ} (g : Threaded t u n m 0) where
    pub passes-walked : (q : ℕ) → PeakHere s n T q
        → Walked (pass_in u n) n (pass_in u n q) (λ x y. prio (level_in t) x < prio (level_in t) y) (Under t n m 0 q)
        (passes_in u n q)
    unfolding passes_in
    passes-walked q (l, e) =
        let a = w.area.few in
        let z = h.ends q (omega arith) l e in
        row_walked (g.row q l (h.plain q l e) (omega arith)) (let f = w.ordered.few in omega arith)

    pub peaks-walked : (x : ℕ) → PassHere s t n x
        → Walked (parent_in u n) n (cell_in (parent_in u n x)) ◌<◌ (Hangs s n T x) (peaks_in u n x)
    unfolding peaks_in
    peaks-walked x p =
        let ((l, k), e) = p in
        let same : (c : ℕ) → c < n → parent_in u n c ≡ parent_in t n c =
        λ c l. g.other (2 * n + c) (λ a b. omega arith) in
        row_walked {most = n}
        (row_same (h.row x l k (pass-slope p)) (λ d (i, j). same d i.cell)
        (ap cell_in (same x l) ∙ sym (first-marked (parent_in t n x) e)) (λ d (i, j). i) (λ d i. (i, omega arith))
        (omega arith))
        (omega arith)
