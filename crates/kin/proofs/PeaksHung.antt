-- Hanging the listed peaks at their passes, cell by cell from the last on.
--     hung-start       nothing is done yet
--     hung-blank       nothing is to be done where all cells are blank
--     hung-listed      the next cell is listed if it was at first
--     hung-step        one cell seen to
--     hung-back        the loop's next cell is one less than its count
-- A pass is no peak, so no number that a pass gets is one of a peak, and the numbers of a peak still to come are those
-- of before. Assumes nothing.
use mathlib.Core.Path.{◌≡◌, refl, sym, ◌∙◌, ap, subst}
use mathlib.Core.Bool.{true, false}
use mathlib.Core.List.{List}
use mathlib.Core.Logic.{◌⊎◌, inl, inr}
use Prim.Native.Nat.{ℕ, suc, ◌+◌, ◌-◌, ◌*◌, ◌≤◌, ◌<◌}
use native.Mathlib.Omega.{arith}
use native.Mathlib.Decide.{ℕ_discrete}
use lib.Dec.{eqb}
use borrow.Author.Tests.{ne_eqb}
use Rattle.relief.proofs.Tests.{split, test, below_suc, true-not-false}
use Rattle.area.specs.Area.{level_in, parent_in, pass_in, pass_of, cell_in, mark_in}
use Rattle.kin.specs.Inner.{Row, listed, Hangs, first_in, Hanging, Hung, Entered, Filed, FiledCell, left, top}
use Rattle.kin.specs.Inner.{hung}
use Rattle.kin.proofs.Chains.{row-none, row_same, row_more}
use Rattle.kin.proofs.Numbers.{mark-none, mark-top, first_plain, first_some, first-mark, first_below}
use Rattle.kin.proofs.ListedCells.{listed-land, listed-root, test-apart, listed_same}

-- a cell from c on is c, or one from the next on
from_suc : (c d : ℕ) → c ≤ d → (d ≡ c) ⊎ (suc c ≤ d)
from_suc c d l = split (below_suc c d (omega arith)) (λ e. inl (sym e)) (λ h. inr (omega arith))

pub hung-start : {s : List ℕ} {n T : ℕ} → Hanging s n T → Hung s s n T n
hung-start {s} {n} {T} w = record {
  below = omega arith;
  row = λ x l m e. row-none
      (let f = first_plain (parent_in s n x) (unmarked x l m) in let a = w.area.few in omega arith)
      (λ d (h, k). let b = h.cell in omega arith);
  marked = λ x l m e f. true-not-false f (unmarked x l m);
  plain = λ q l e. unmarked q l (listed-land s n T q e);
  tops = λ q k l m e. absurd (omega arith);
  lesser = λ d l m e. let i = w.inside d l m in let a = w.area.few in omega arith;
  ends = λ q k l e. absurd (omega arith);
  passes_left = λ d l e. refl;
  parents_left = λ q l e. refl;
  no_root = λ d l m e f. true-not-false (listed-root s n T d m f) e;
  kept = record { front = λ j l. refl; back = λ j l. refl; len = refl };
}
  where
    unmarked : (c : ℕ) → c < n → 0 < level_in s c → mark_in (parent_in s n c) ≡ false
    unmarked c l m =
        mark-none (parent_in s n c) (let i = w.inside c l m in let a = w.area.few in omega arith)

pub hung-blank : (s : List ℕ) (n T : ℕ) → ((c : ℕ) → c < n → 0 < level_in s c → ⊥) → Hung s s n T 0
hung-blank s n T none = record {
  below = omega arith;
  row = λ x l m e. absurd (none x l m);
  marked = λ x l m e f. absurd (none x l m);
  plain = λ q l e. absurd (none q l (listed-land s n T q e));
  tops = λ q k l m e. absurd (none q l m);
  lesser = λ d l m e. absurd (none d l m);
  ends = λ q k l e. absurd (none q l (listed-land s n T q e));
  passes_left = λ d l e. refl;
  parents_left = λ q l e. refl;
  no_root = λ d l m e f. none d l m;
  kept = record { front = λ j l. refl; back = λ j l. refl; len = refl };
}

module _ {s t : List ℕ} {n T c : ℕ} (w : Hanging s n T) (h : Hung s t n T (suc c)) where
  here : c < n
  here = h.below

  level-same : (d : ℕ) → d < n → level_in t d ≡ level_in s d
  level-same d l = h.kept.front d (omega arith)

  pass_same : pass_of t n c ≡ pass_of s n c
  pass_same = ap cell_in (h.passes_left c here (λ e. omega arith))

  pub hung-listed : listed t n T c ≡ listed s n T c
  hung-listed =
      listed_same s t n T c (level-same c here) (λ l. pass_same)
      (λ l. level-same (pass_of s n c) (w.passes c here l)) root
    where
      root : 0 < level_in s c → eqb (parent_in t n c) c ≡ eqb (parent_in s n c) c
      root l =
          split (test (listed s n T c))
          (λ e. ap (λ (p : ℕ). eqb p c) (h.parents_left c (omega arith) e))
          (λ e. ne_eqb (parent_in t n c) c (h.no_root c here l e)
          ∙ sym (ne_eqb (parent_in s n c) c (λ f. true-not-false (listed-root s n T c l f) e)))

  -- ---- a cell that is not listed

  hung-left : listed s n T c ≡ false → Hung s t n T c
  hung-left e = record {
    below = omega arith;
    row = λ x l m f. row_same (h.row x l m f) (λ d k. refl) refl
        (λ d (k, i). (k, omega arith))
        (λ d (k, i). (k, split (from_suc c d i) (λ q. absurd (test-apart (listed s n T) k.peak e q)) (λ j. j)))
        (omega arith);
    marked = h.marked;
    plain = h.plain;
    tops = λ q k l m f. split (from_suc c q k) (λ g. absurd (test-apart (listed s n T) (listed-root s n T q m f) e g))
        (λ i. h.tops q i l m f);
    lesser = h.lesser;
    ends = λ q k l f. split (from_suc c q k) (λ g. absurd (test-apart (listed s n T) f e g)) (λ i. h.ends q i l f);
    passes_left = λ d l f. h.passes_left d l (λ g. let i = f g in omega arith);
    parents_left = λ q l f. h.parents_left q (omega arith) f;
    no_root = h.no_root;
    kept = h.kept;
  }

  module _ (own : listed s n T c ≡ true) where
    parent-own : parent_in t n c ≡ parent_in s n c
    parent-own = h.parents_left c (omega arith) own

    not_own : (x : ℕ) → listed s n T x ≡ false → x ≡ c → ⊥
    not_own x e q = test-apart (listed s n T) own e (sym q)

    -- ---- a top

    module _ {u : List ℕ} (root : parent_in t n c ≡ c) (g : Entered t u n c 8388608) where
      parent-else : (d : ℕ) → d < n → (d ≡ c → ⊥) → parent_in u n d ≡ parent_in t n d
      parent-else d l a = g.other (2 * n + d) (λ e. a (omega arith)) (λ e. omega arith)

      pass-else : (d : ℕ) → d < n → (d ≡ c → ⊥) → pass_in u n d ≡ pass_in t n d
      pass-else d l a = g.other (3 * n + d) (λ e. omega arith) (λ e. a (omega arith))

      hung-top : Hung s u n T c
      hung-top = record {
        below = omega arith;
        row = λ x l m f. row_same (h.row x l m f)
            (λ d (k, i). parent-else d k.cell (λ q. omega arith))
            (ap first_in (parent-else x l (not_own x f)))
            (λ d (k, i). (k, omega arith))
            (λ d (k, i). (
              k,
              split (from_suc c d i)
                  (λ q. absurd (k.keyed (ap (parent_in s n) q ∙ sym parent-own ∙ root ∙ sym q))) (λ j. j),
            ))
            (omega arith);
        marked = λ x l m f k. h.marked x l m f (sym (ap mark_in (parent-else x l (not_own x f))) ∙ k);
        plain = λ q l f. elim (ℕ_discrete q c) [
          | yes k ↦ ap mark_in (ap (parent_in u n) k ∙ g.own) ∙ mark-top
          | no k ↦ ap mark_in (parent-else q l k) ∙ h.plain q l f
        ];
        tops = λ q k l m f. split (from_suc c q k) (λ i. ap (parent_in u n) i ∙ g.own)
            (λ i. parent-else q l (λ j. omega arith) ∙ h.tops q i l m f);
        lesser = λ d l m f.
            let e = parent-else d l (λ q. f (ap (parent_in s n) q ∙ sym parent-own ∙ root ∙ sym q)) in
            let k = h.lesser d l m f in
            omega arith;
        ends = λ q k l f. split (from_suc c q k) (λ i. ap (pass_in u n) i ∙ g.ended)
            (λ i. pass-else q l (λ j. omega arith) ∙ h.ends q i l f);
        passes_left = λ d l f.
            pass-else d l (λ q. let i = f (subst (λ (z : ℕ). listed s n T z ≡ true) (sym q) own) in omega arith)
            ∙ h.passes_left d l (λ k. let i = f k in omega arith);
        parents_left = λ q l f. parent-else q (omega arith) (λ j. omega arith) ∙ h.parents_left q (omega arith) f;
        no_root = λ d l m f k. h.no_root d l m f (sym (parent-else d l (not_own d f)) ∙ k);
        kept = record {
          front = λ j l. g.other j (λ e. omega arith) (λ e. omega arith) ∙ h.kept.front j l;
          back = λ j l. g.other j (λ e. omega arith) (λ e. omega arith) ∙ h.kept.back j l;
          len = g.len ∙ h.kept.len;
        };
      }

    -- ---- another listed peak, at the pass x

    module _ {u : List ℕ} {x : ℕ} (at : pass_of s n c ≡ x) (keyed : parent_in t n c ≡ c → ⊥) (g : Filed t u n c x) where
      hangs : Hangs s n T x c
      hangs = record { cell = here; peak = own; keyed = λ e. keyed (parent-own ∙ e); pass = at }

      slope : listed s n T x ≡ false
      slope = (w.slopes x c hangs).1

      pass-cell : x < n
      pass-cell = let l = w.passes c here (listed-land s n T c own) in omega arith

      few : c < 1048576
      few = let a = w.area.few in omega arith

      -- a listed cell is not the pass
      not-pass : (d : ℕ) → listed s n T d ≡ true → d ≡ x → ⊥
      not-pass d e = test-apart (listed s n T) e slope

      link-else : (d : ℕ) → d < n → (d ≡ c → ⊥) → (d ≡ x → ⊥) → parent_in u n d ≡ parent_in t n d
      link-else d l a b =
          g.other (2 * n + d) (λ e. a (omega arith)) (λ e. b (omega arith)) (λ e. omega arith)

      number-else : (d : ℕ) → d < n → (d ≡ c → ⊥) → pass_in u n d ≡ pass_in t n d
      number-else d l a =
          let b = pass-cell in
          g.other (3 * n + d) (λ e. omega arith) (λ e. omega arith) (λ e. a (omega arith))

      -- the row of the pass has c before what it had, and no other row changes
      row-own : 0 < level_in s x
          → Row (parent_in u n) n (first_in (parent_in u n x)) ◌<◌ (λ d. Hangs s n T x d × (c ≤ d)) (n - c)
      row-own m =
          row_more (h.row x pass-cell m slope)
          (λ d (k, i). link-else d k.cell (λ q. omega arith) (not-pass d k.peak))
          (ap first_in g.first ∙ first_some c few) here g.own (λ d (k, i). omega arith) (hangs, omega arith)
          (λ d (k, i). (k, omega arith))
          (λ d (k, i). split (from_suc c d i) inl (λ j. inr (k, j))) (omega arith)

      row-else : (y : ℕ) → y < n → 0 < level_in s y → listed s n T y ≡ false → (y ≡ x → ⊥)
          → Row (parent_in u n) n (first_in (parent_in u n y)) ◌<◌ (λ d. Hangs s n T y d × (c ≤ d)) (n - c)
      row-else y l m f a =
          row_same (h.row y l m f)
          (λ d (k, i). link-else d k.cell (λ q. omega arith) (not-pass d k.peak))
          (ap first_in (link-else y l (not_own y f) a))
          (λ d (k, i). (k, omega arith))
          (λ d (k, i). (
            k,
            split (from_suc c d i) (λ q. absurd (a (sym k.pass ∙ ap (pass_of s n) q ∙ at))) (λ j. j),
          ))
          (omega arith)

      hung-hung : Hung s u n T c
      hung-hung = record {
        below = omega arith;
        row = λ y l m f. elim (ℕ_discrete y x) [
          | yes q ↦ subst
              (λ (z : ℕ). Row (parent_in u n) n (first_in (parent_in u n z)) ◌<◌ (λ d. Hangs s n T z d × (c ≤ d))
              (n - c))
              (sym q) (row-own (w.slopes x c hangs).0)
          | no q ↦ row-else y l m f q
        ];
        marked = λ y l m f k. elim (ℕ_discrete y x) [
          | yes q ↦ (c, subst (λ (z : ℕ). Hangs s n T z c) (sym q) hangs)
          | no q ↦ h.marked y l m f (sym (ap mark_in (link-else y l (not_own y f) q)) ∙ k)
        ];
        plain = λ q l f. elim (ℕ_discrete q c) [
          | yes k ↦ ap mark_in (ap (parent_in u n) k ∙ g.own) ∙ first-mark (parent_in t n x)
          | no k ↦ ap mark_in (link-else q l k (not-pass q f)) ∙ h.plain q l f
        ];
        tops = λ q k l m f. split (from_suc c q k)
            (λ i. absurd (hangs.keyed (sym (ap (parent_in s n) i) ∙ f ∙ i)))
            (λ i. link-else q l (λ j. omega arith) (not-pass q (listed-root s n T q m f)) ∙ h.tops q i l m f);
        lesser = λ d l m f. elim (ℕ_discrete d c) [
          | yes q ↦ let e : parent_in u n d ≡ first_in (parent_in t n x) = ap (parent_in u n) q ∙ g.own in
              let k = first_below (parent_in t n x) in
              omega arith
          | no q ↦ elim (ℕ_discrete d x) [
            | yes p ↦ let e : parent_in u n d ≡ c + 1048576 = ap (parent_in u n) p ∙ g.first in
                let k = few in
                omega arith
            | no p ↦ let e = link-else d l q p in let k = h.lesser d l m f in omega arith
          ]
        ];
        ends = λ q k l f. split (from_suc c q k) (λ i. ap (pass_in u n) i ∙ g.ended)
            (λ i. number-else q l (λ j. omega arith) ∙ h.ends q i l f);
        passes_left = λ d l f.
            number-else d l (λ q. let i = f (subst (λ (z : ℕ). listed s n T z ≡ true) (sym q) own) in omega arith)
            ∙ h.passes_left d l (λ k. let i = f k in omega arith);
        parents_left = λ q l f.
            link-else q (omega arith) (λ j. omega arith) (not-pass q f) ∙ h.parents_left q (omega arith) f;
        no_root = λ d l m f k. elim (ℕ_discrete d x) [
          | yes q ↦ let e : parent_in u n d ≡ c + 1048576 = ap (parent_in u n) q ∙ g.first in
              let a = w.area.few in
              omega arith
          | no q ↦ h.no_root d l m f (sym (link-else d l (not_own d f) q) ∙ k)
        ];
        kept = record {
          front = λ j l. g.other j (λ e. omega arith) (λ e. omega arith) (λ e. omega arith) ∙ h.kept.front j l;
          back = λ j l.
              let b = pass-cell in
              g.other j (λ e. omega arith) (λ e. omega arith) (λ e. omega arith) ∙ h.kept.back j l;
          len = g.len ∙ h.kept.len;
        };
      }

  pub hung-step : {u : List ℕ} → FiledCell t u n T c → Hung s u n T c
  hung-step {u} (left e q) = subst (λ (v : List ℕ). Hung s v n T c) (sym q) (hung-left (sym hung-listed ∙ e))
  hung-step {u} (top e q g) = hung-top (sym hung-listed ∙ e) q g
  hung-step {u} (hung e q g) = hung-hung (sym hung-listed ∙ e) (sym pass_same) q g

-- ---- the loop's count

pub hung-back : {s t : List ℕ} {n T k : ℕ} → 0 < k → Hung s t n T k → Hung s t n T (suc (k - 1))
hung-back {s} {t} {n} {T} l h = subst (Hung s t n T) (omega arith) h
