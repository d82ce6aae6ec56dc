-- `stays`: each number of the path is right, or one is not. Assumes nothing.
use Rattle.std.proofs.Common.{arith, rules, tests, Bool, true, false, refl, ◌≡◌, ℕ, ◌<◌, length, subst, sym, get_or}
use Rattle.std.specs.Bool.{MatchBool}
use Rattle.std.specs.List.{range_with_len, AllWithin, HoldsAt}
use Rattle.std.proofs.lemmas.Iterator.{cases_from_all, YieldsList-from_range}
use Rattle.std.proofs.lemmas.List.FromFn.{length-range_with_len, get_or-range_with_len}
use Rattle.relief.specs.Plane.{plane_of, touch_of}
use Rattle.relief.specs.Inner.{Decides, cut}
use Rattle.relief.proofs.Tests.{confirmed, refuted}
use Rattle.area.specs.Area.{level_in}
use Rattle.audit.specs.Inner.{StepsAt}
use Rattle.audit.proofs.stays.Goals as goal

-- what `all` tells of the places of a row
of_all : (P : ℕ → Type 0) (n : ℕ) (r : Bool)
    → MatchBool r (AllWithin P (range_with_len 0 n) 0 (length (range_with_len 0 n)))
    ((k : ℕ) × (k < length (range_with_len 0 n)) × HoldsAt (λ i. P i → ⊥) (range_with_len 0 n) k)
    → Decides ((i : ℕ) → i < n → P i) r
of_all P n true h = confirmed (λ i l.
    let e : get_or (range_with_len 0 n) i 0 ≡ i = omega (arith, get_or-range_with_len 0 n i 0 l) in
    subst P e (h i 0 (omega arith) (omega (arith, length-range_with_len 0 n))))
of_all P n false (k, l, h) = refuted (λ all.
    let m : k < n = omega (arith, length-range_with_len 0 n) in
    let e : get_or (range_with_len 0 n) k 0 ≡ k = omega (arith, get_or-range_with_len 0 n k 0 m) in
    h 0 (subst P (sym e) (all k m)))

pub returns : goal.returns
returns c =
    let a = c.args in
    let right = StepsAt (touch_of (plane_of a.grid.rows)) (cut a.grid.n (level_in a.work.now)) a.k a.path.now in
    of_all right (length a.path.now) c.all.result
    (cases_from_all _ _ _ right (λ i. right i → ⊥) c.all.ensures.ran
    (YieldsList-from_range 0 (length a.path.now) (length a.path.now) refl (omega arith))
    (λ x q k. search (rules, tests)) (λ x q k. search (rules, tests)))
