-- Each promise allows one outcome: answers that tell the same are one, a cell is a peak's or not, and a peak has one
-- account of the tool's own. Assumes nothing.
use Rattle.std.specs.Prelude.{Result, Ok, Err}
use mathlib.Core.Path.{◌≡◌, refl, sym, ◌∙◌, ap, subst}
use mathlib.Core.Bool.{Bool, true, false, cond}
use mathlib.Core.List.{List, [], ◌∷◌, ◌++◌}
use mathlib.Core.Logic.{◌↔◌}
use Prim.Native.Nat.{ℕ}
use native.Mathlib.Omega.{arith}
use lib.ListN.{length, get_or, take, drop}
use lib.Seq.{take_at}
use Rattle.relief.specs.Heights.{level_of, levels}
use Rattle.relief.specs.Plane.{plane_of, touch_of}
use Rattle.relief.specs.Accounts.{Account, OwnAccount}
use Rattle.relief.proofs.Tests.{true-not-false}
use Rattle.relief.proofs.Shapes.{shape-terrain}
use Rattle.relief.proofs.Accounts.{own-unique}
use Rattle.record.specs.declared.Refusal.{Refusal}
use Rattle.record.specs.Refusals.{Told, granted, checked_told, first_of, told_by}
use Rattle.record.proofs.Refusals.{refusals-differ, told-refused}
use Rattle.record.proofs.Tests.{granted-good, bad-not-good}
use Rattle.scale.proofs.Levels.{level-injective}
use Rattle.heights.specs.Grid.{grid_tests}
use Rattle.table.proofs.Handed.{worked-unique}
use Rattle.account.specs.declared.Given.{Given}
use Rattle.account.specs.Promises.{accounted_told, verdict_told, check_tests, account_tests, row_after}
use Rattle.account.proofs.Tests.{check-early, check-no-peak, account-early}
use Rattle.account.specs.Claims.{AccountedDiffer, VerdictDiffer, AccountUnique, CheckUnique, AccountPasses}

-- the i-th value that an answer tells
value_at : ℕ → Told → ℕ
value_at i t = get_or t.values i 0

pub accounted-differ : AccountedDiffer
unfolding value_at
accounted-differ (Ok a) (Ok b) f g e =
    let ek = level-injective {a = a.key} {b = b.key} f g (ap (value_at 0) e) in
    let ep : a.path ≡ b.path = ap (value_at 1) e in
    let ei : a.island ≡ b.island = ap (value_at 2) e in
    ap Ok (rw (ek, ep, ei) refl)
accounted-differ (Ok a) (Err r) f g e = told-refused r (level_of a.key ∷ a.path ∷ a.island ∷ []) (sym e)
accounted-differ (Err r) (Ok b) f g e = told-refused r (level_of b.key ∷ b.path ∷ b.island ∷ []) e
accounted-differ (Err r) (Err q) f g e = ap Err (refusals-differ r q e)

pub verdict-differ : VerdictDiffer
unfolding value_at
verdict-differ (Ok true) (Ok true) e = refl
verdict-differ (Ok false) (Ok false) e = refl
verdict-differ (Ok true) (Ok false) e = let d = ap (value_at 0) e in absurd (omega arith)
verdict-differ (Ok false) (Ok true) e = let d = ap (value_at 0) e in absurd (omega arith)
verdict-differ (Ok good) (Err r) e = told-refused r (cond good 1 0 ∷ []) (sym e)
verdict-differ (Err r) (Ok good) e = told-refused r (cond good 1 0 ∷ []) e
verdict-differ (Err r) (Err q) e = ap Err (refusals-differ r q e)

-- two tests of one statement are one
same_test : {A : Type 0} (a b : Bool) → (a ≡ true) ↔ A → (b ≡ true) ↔ A → a ≡ b
same_test true true f g = refl
same_test false false f g = refl
same_test true false f g = true-not-false (g.1 (f.0 refl)) refl
same_test false true f g = true-not-false (f.1 (g.0 refl)) refl

-- what is told where something is refused does not depend on the values
told-either : (tests : List (Bool × Refusal)) (t u : Told) → (first_of tests ≡ Ok tt → t ≡ u)
    → told_by tests t ≡ told_by tests u
told-either tests t u same = go (first_of tests) refl
  where
    go : (c : Result (Unit {0}) Refusal) → first_of tests ≡ c → checked_told c t ≡ checked_told c u
    go (Ok tt) e = same e
    go (Err r) e = refl

-- nor does a row
row-either : (a : Result Given Refusal) (tests : List (Bool × Refusal)) (t : Told) (l m row : List ℕ)
    → accounted_told a ≡ told_by tests t → (first_of tests ≡ Ok tt → l ≡ m) → row_after a l row ≡ row_after a m row
row-either (Ok a) tests t l m row e same =
    ap (λ (x : List ℕ). x ++ drop (length x) row)
    (same (granted-good tests t (level_of a.key ∷ a.path ∷ a.island ∷ []) e))
row-either (Err r) tests t l m row e same = refl

-- ---- where nothing refuses the cell is a peak's

module _ (rows cells work : ℕ) where
  checked-peak : (peak : Bool) → first_of (check_tests rows cells work peak) ≡ Ok tt → peak ≡ true
  checked-peak true e = refl
  checked-peak false e = go (first_of (grid_tests rows cells work)) refl
    where
      go : (c : Result (Unit {0}) Refusal) → first_of (grid_tests rows cells work) ≡ c → false ≡ true
      go (Ok tt) f = bad-not-good (check-no-peak rows cells work false f refl) e
      go (Err r) f = bad-not-good (check-early rows cells work false f) e

  account-checked : (peak : Bool) (path island : ℕ) → first_of (account_tests rows cells work peak path island) ≡ Ok tt
      → first_of (check_tests rows cells work peak) ≡ Ok tt
  account-checked peak path island e = go (first_of (check_tests rows cells work peak)) refl
    where
      go : (c : Result (Unit {0}) Refusal) → first_of (check_tests rows cells work peak) ≡ c
          → first_of (check_tests rows cells work peak) ≡ Ok tt
      go (Ok tt) f = f
      go (Err r) f = bad-not-good (account-early rows cells work peak path island f) e

-- ---- one outcome

pub account-unique : AccountUnique
account-unique rows heights cell work w v path t u island k l a b h i =
    let tests = account_tests rows (length heights) (length work) h.peak (length path) (length island) in
    let peaks : i.peak ≡ h.peak = same_test i.peak h.peak i.told h.told in
    let own-i : first_of tests ≡ Ok tt
    → OwnAccount (touch_of (plane_of rows)) (levels heights) cell i.key i.way i.isle =
    subst
    (λ (p : Bool). first_of (account_tests rows (length heights) (length work) p (length path) (length island)) ≡ Ok tt
    → OwnAccount (touch_of (plane_of rows)) (levels heights) cell i.key i.way i.isle) peaks i.right in
    let answered-i : accounted_told b ≡ told_by tests (granted (i.key ∷ length i.way ∷ length i.isle ∷ [])) =
    subst
    (λ (p : Bool). accounted_told b
    ≡ told_by (account_tests rows (length heights) (length work) p (length path) (length island))
    (granted (i.key ∷ length i.way ∷ length i.isle ∷ []))) peaks i.answered in
    let one : first_of tests ≡ Ok tt → (h.key ≡ i.key) × (h.way ≡ i.way) × (h.isle ≡ i.isle) =
    λ good. own-unique (shape-terrain (plane_of rows) heights)
    (h.told.0 (checked-peak rows (length heights) (length work) h.peak
    (account-checked rows (length heights) (length work) h.peak (length path) (length island) good)))
    (h.right good) (own-i good) in
    let same : a ≡ b =
    accounted-differ a b h.fits i.fits
    (h.answered ∙ told-either tests _ _ (λ good. let (ek, ew, ei) = one good in rw (ek, ew, ei) refl)
    ∙ sym answered-i) in (
      same,
      h.path_after ∙ row-either a tests _ h.way i.way path h.answered (λ good. (one good).1)
          ∙ ap (λ (x : Result Given Refusal). row_after x i.way path) same ∙ sym i.path_after,
      h.island_after ∙ row-either a tests _ h.isle i.isle island h.answered (λ good. (one good).2)
          ∙ ap (λ (x : Result Given Refusal). row_after x i.isle island) same ∙ sym i.island_after,
      worked-unique h.worked i.worked,
    )

pub check-unique : CheckUnique
check-unique rows heights cell key path island work w v a b h i =
    let tests = check_tests rows (length heights) (length work) h.peak in
    let peaks : i.peak ≡ h.peak = same_test i.peak h.peak i.told h.told in
    let judged-i : first_of tests ≡ Ok tt
    → (i.good ≡ true) ↔ Account (touch_of (plane_of rows)) (levels heights) cell (level_of key) path island =
    subst
    (λ (p : Bool). first_of (check_tests rows (length heights) (length work) p) ≡ Ok tt
    → (i.good ≡ true) ↔ Account (touch_of (plane_of rows)) (levels heights) cell (level_of key) path island) peaks
    i.judged in
    let answered-i : verdict_told b ≡ told_by tests (granted (cond i.good 1 0 ∷ [])) =
    subst
    (λ (p : Bool). verdict_told b
    ≡ told_by (check_tests rows (length heights) (length work) p) (granted (cond i.good 1 0 ∷ []))) peaks
    i.answered in (
      verdict-differ a b
          (h.answered
          ∙ told-either tests _ _
          (λ good. ap (λ (x : Bool). granted (cond x 1 0 ∷ []))
          (same_test h.good i.good (h.judged good) (judged-i good))) ∙ sym answered-i),
      worked-unique h.worked i.worked,
    )

-- ---- the tool's own account passes

pub account-passes : AccountPasses
unfolding value_at
account-passes rows heights cell key p i work w path t island k work' v b h len q =
    let tests = account_tests rows (length heights) (length work) h.peak (length path) (length island) in
    let told = granted (h.key ∷ length h.way ∷ length h.isle ∷ []) in
    let good = granted-good tests told (level_of key ∷ p ∷ i ∷ []) h.answered in
    let same : granted (level_of key ∷ p ∷ i ∷ []) ≡ told =
    h.answered ∙ ap (λ (c : Result (Unit {0}) Refusal). checked_told c told) good in
    let passed : first_of (check_tests rows (length heights) (length work') q.peak) ≡ Ok tt =
    subst (λ (n : ℕ). first_of (check_tests rows (length heights) n q.peak) ≡ Ok tt) len
    (subst (λ (x : Bool). first_of (check_tests rows (length heights) (length work) x) ≡ Ok tt)
    (same_test h.peak q.peak h.told q.told)
    (account-checked rows (length heights) (length work) h.peak (length path) (length island) good)) in
    let ek : h.key ≡ level_of key = sym (ap (value_at 0) same) in
    let ep : h.way ≡ take p t =
    sym (ap (take p) h.path_after ∙ take_at h.way _ p (sym (ap (value_at 1) same))) in
    let ei : h.isle ≡ take i k =
    sym (ap (take i) h.island_after ∙ take_at h.isle _ i (sym (ap (value_at 2) same))) in
    let mine : Account (touch_of (plane_of rows)) (levels heights) cell (level_of key) (take p t) (take i k) =
    subst (λ (l : List ℕ). Account (touch_of (plane_of rows)) (levels heights) cell (level_of key) (take p t) l) ei
    (subst (λ (l : List ℕ). Account (touch_of (plane_of rows)) (levels heights) cell (level_of key) l h.isle) ep
    (subst (λ (n : ℕ). Account (touch_of (plane_of rows)) (levels heights) cell n h.way h.isle) ek
    (h.right good).account)) in
    let yes : q.good ≡ true = (q.judged passed).1 mine in
    verdict-differ b (Ok true)
    (q.answered ∙ ap (λ (c : Result (Unit {0}) Refusal). checked_told c (granted (cond q.good 1 0 ∷ []))) passed
    ∙ ap (λ (x : Bool). granted (cond x 1 0 ∷ [])) yes)
