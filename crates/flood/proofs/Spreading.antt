-- How the queue of a flood grows. `from` is n for a cell that may be reached, and the place from which it was reached
-- once it is. At each moment what is known is `Spreading`; a cell put behind the queue keeps it, and so does one that
-- is passed by. A cell that is put was touched by none of the cells whose turn is over, or it would have been reached.
-- It is the latest of those reached from this one, since the places around a cell rise. When the turn of all is over,
-- the set of cells reached is closed, and that is `Spread`.
--     spreading-few, -room                 the queue has at most n cells: they are different
--     spreading-start, -put, -left         the start alone; one more cell; one that is passed by
--     spreading-next, -done                the turn of the next cell; of none
-- Assumes nothing.
use mathlib.Core.Path.{◌≡◌, refl, sym, ◌∙◌, ap, subst, subst₂}
use mathlib.Core.Bool.{cond}
use mathlib.Core.Logic.{◌⊎◌, ◌↔◌}
use Prim.Native.Nat.{ℕ, suc, ◌≤◌, ◌<◌}
use native.Mathlib.Omega.{arith}
use lib.Dec.{eqb}
use borrow.Author.Tests.{eq-eqb, ne_eqb}
use Rattle.relief.proofs.Tests.{split, below_suc, decide, eq-decides, cond-true, cond-false}
use Rattle.flood.specs.Flood.{Spread}
use Rattle.flood.specs.Inner.{Spreading}
use Rattle.flood.proofs.Pigeons.{pigeons}

pub spreading-start : {touch : ℕ → ℕ → Type 0} {n start : ℕ} {queue from : ℕ → ℕ} → start < n → queue 0 ≡ start
    → from start ≡ 0 → ((c : ℕ) → c < n → (c ≡ start → ⊥) → n ≤ from c)
    → Spreading touch n queue from 0 1 (λ (c : ℕ). ⊥)
spreading-start {n = n} {start} {queue} {from} l e f other = record {
  some = omega arith;
  order = omega arith;
  queued = λ i m. let q = only i m in (omega arith, let g = zero i m in omega arith);
  once = λ i j a b q. omega arith;
  found = λ c m k. (
    0,
    omega arith,
    split (decide (eq-decides c start)) (λ q. e ∙ sym q)
        (λ d. let g = other c m d in absurd (omega arith)),
  );
  came = λ i a b. absurd (omega arith);
  late = λ i m. let g = zero i m in omega arith;
  sorted = λ i j a b. let g = zero i (omega arith) in omega arith;
  soon = λ i j a b t. absurd (omega arith);
  rising = λ i j a b c q. absurd (omega arith);
  done = λ i c a b m t. absurd (omega arith);
  seen = λ c a b m. absurd b;
  fresh = λ i a b q. absurd (omega arith);
}
  where
    only : (i : ℕ) → i < 1 → queue i ≡ start
    only i m = let q : i ≡ 0 = omega arith in ap queue q ∙ e

    zero : (i : ℕ) → i < 1 → from (queue i) ≡ 0
    zero i m = ap from (only i m) ∙ f

module _ {touch : ℕ → ℕ → Type 0} {n : ℕ} {queue from : ℕ → ℕ} {head tail : ℕ} {Seen : ℕ → Type 0}
    (h : Spreading touch n queue from head tail Seen) where
  pub spreading-few : tail ≤ n
  spreading-few = pigeons n tail queue (λ i l. (h.queued i l).0) h.once

  -- and where a cell is still open, fewer: it would be one more
  pub spreading-room : {y : ℕ} → y < n → from y ≡ n → tail < n
  spreading-room {y} l e = pigeons n (suc tail) with-y inside once
    where
      with-y : ℕ → ℕ
      with-y i = cond (eqb i tail) y (queue i)

      last : (i : ℕ) → i ≡ tail → with-y i ≡ y
      last i q = cond-true (eqb i tail) y (queue i) (eq-eqb i tail q)

      same : (i : ℕ) → i < tail → with-y i ≡ queue i
      same i m = cond-false (eqb i tail) y (queue i) (ne_eqb i tail (λ q. omega arith))

      other : (i : ℕ) → i < tail → queue i ≡ y → ⊥
      other i m q = let b = (h.queued i m).1 in let f = ap from q in omega arith

      inside : (i : ℕ) → i < suc tail → with-y i < n
      inside i m =
          split (below_suc i tail m) (λ q. let f = last i q in omega arith)
          (λ k. let f = same i k in let b = (h.queued i k).0 in omega arith)

      once : (i j : ℕ) → i < suc tail → j < suc tail → with-y i ≡ with-y j → i ≡ j
      once i j a b q =
          split (below_suc i tail a)
          (λ k. split (below_suc j tail b) (λ m. k ∙ sym m)
          (λ m. absurd (other j m (sym (same j m) ∙ sym q ∙ last i k))))
          (λ k. split (below_suc j tail b) (λ m. absurd (other i k (sym (same i k) ∙ q ∙ last j m)))
          (λ m. h.once i j k m (sym (same i k) ∙ q ∙ same j m)))

  -- ---- one place around the cell whose turn it is

  module _ {Seen' : ℕ → Type 0} {y : ℕ} (widens : (c : ℕ) → Seen c → Seen' c)
      (narrows : (c : ℕ) → Seen' c → Seen c ⊎ (c ≡ y)) where
    pub spreading-left : (y < n → from y ≡ n → ⊥) → Spreading touch n queue from head tail Seen'
    spreading-left shut = record {
      some = h.some;
      order = h.order;
      queued = h.queued;
      once = h.once;
      found = h.found;
      came = h.came;
      late = h.late;
      sorted = h.sorted;
      soon = h.soon;
      rising = h.rising;
      done = h.done;
      seen = λ c l s m. split (narrows c s) (λ g. h.seen c l g m)
          (λ e. split (decide (eq-decides (from c) n))
          (λ f. absurd (shut (omega arith) (ap from (sym e) ∙ f))) (λ d. omega arith));
      fresh = λ i a b e. widens (queue i) (h.fresh i a b e);
    }

    module _ {queue' from' : ℕ → ℕ} (inside : y < n) (free : from y ≡ n) (more : head < tail)
        (touches : touch (queue head) y) (rises : (c : ℕ) → c < n → Seen c → c ≤ y) (here : Seen' y)
        (same : (i : ℕ) → i < tail → queue' i ≡ queue i) (last : queue' tail ≡ y) (reached : from' y ≡ head)
        (others : (c : ℕ) → c < n → (c ≡ y → ⊥) → from' c ≡ from c) where
      other : (i : ℕ) → i < tail → queue i ≡ y → ⊥
      other i l e = let q = (h.queued i l).1 in let f = ap from e in omega arith

      kept : (i : ℕ) → i < tail → from' (queue' i) ≡ from (queue i)
      kept i l = ap from' (same i l) ∙ others (queue i) (h.queued i l).0 (other i l)

      newest : from' (queue' tail) ≡ head
      newest = ap from' last ∙ reached

      -- what is so of the places before the last, and of the last, is so of all
      all : (P : ℕ → Type 0) → ((i : ℕ) → i < tail → P i) → P tail → (i : ℕ) → i < suc tail → P i
      all P f g i l = split (below_suc i tail l) (λ e. subst P (sym e) g) (f i)

      pub spreading-put : Spreading touch n queue' from' head (suc tail) Seen'
      spreading-put = record {
        some = omega arith;
        order = let o = h.order in omega arith;
        queued = all (λ (i : ℕ). (queue' i < n) × (from' (queue' i) < n))
            (λ i l. let (a, b) = h.queued i l in let e = same i l in let f = kept i l in (omega arith, omega arith))
            (omega arith, let e = newest in let f = spreading-few in omega arith);
        once = λ i j a b e. apart i j a b e;
        found = λ c l m. split (decide (eq-decides c y)) (λ e. (tail, omega arith, last ∙ sym e))
            (λ d. let f = others c l d in let (i, a, b) = h.found c l (omega arith) in
            (i, omega arith, same i a ∙ b));
        came = λ i a b. all (λ (i : ℕ). 0 < i → (from' (queue' i) < i) × touch (queue' (from' (queue' i))) (queue' i))
            (λ i l p. let (c, t) = h.came i p l in let k = kept i l in
            (omega arith, subst₂ touch (sym (ap queue' k ∙ same (from (queue i)) (omega arith))) (sym (same i l)) t))
            (λ p. let k = newest in
            (omega arith, subst₂ touch (sym (ap queue' k ∙ same head more)) (sym last) touches)) i b a;
        late = all (λ (i : ℕ). from' (queue' i) ≤ head)
            (λ i l. let k = kept i l in let m = h.late i l in omega arith) (let k = newest in omega arith);
        sorted = λ i j a b. all (λ (j : ℕ). i ≤ j → from' (queue' i) ≤ from' (queue' j))
            (λ j l o. let k = kept j l in let m = kept i (omega arith) in let q = h.sorted i j o l in omega arith)
            (λ o. split (below_suc i tail (omega arith))
            (λ e. let f = ap (λ (i : ℕ). from' (queue' i)) e in omega arith)
            (λ l. let k = kept i l in let m = h.late i l in let q = newest in omega arith)) j b a;
        soon = λ i j a b. all (λ (j : ℕ). touch (queue' i) (queue' j) → from' (queue' j) ≤ i)
            (λ j l t. let k = kept j l in
            let m = h.soon i j a l (subst₂ touch (same i (omega arith)) (same j l) t) in omega arith)
            (λ t. let m = h.done i y a inside (omega arith) (subst₂ touch (same i (omega arith)) last t) in
            absurd (omega arith)) j b;
        rising = λ i j p a b. all (λ (j : ℕ). i < j → from' (queue' i) ≡ from' (queue' j) → queue' i < queue' j)
            (λ j l o e. let l' : i < tail = omega arith in
            let m = h.rising i j p o l (sym (kept i l') ∙ e ∙ kept j l) in
            let f = same i l' in let g = same j l in omega arith)
            (λ o e. let f = same i o in
            let m = rises (queue i) (h.queued i o).0 (h.fresh i p o (sym (kept i o) ∙ e ∙ newest)) in
            split (decide (eq-decides (queue i) y)) (λ g. absurd (other i o g)) (λ d. omega arith)) j b a;
        done = λ i c a l m t. split (decide (eq-decides c y)) (λ e. below c e)
            (λ d. let f = others c l d in
            let g = h.done i c a l (omega arith) (subst₂ touch (same i (omega arith)) refl t) in omega arith);
        seen = λ c l s m. split (decide (eq-decides c y)) (λ e. below c e)
            (λ d. let f = others c l d in
            split (narrows c s) (λ g. let q = h.seen c l g (omega arith) in omega arith) (λ e. absurd (d e)));
        fresh = λ i p b. all (λ (i : ℕ). 0 < i → from' (queue' i) ≡ head → Seen' (queue' i))
            (λ i l p e. subst Seen' (sym (same i l)) (widens (queue i) (h.fresh i p l (sym (kept i l) ∙ e))))
            (λ p e. subst Seen' (sym last) here) i b p;
      }
        where
          below : (c : ℕ) → c ≡ y → from' c < n
          below c e = let f = ap from' e in let g = spreading-few in omega arith

          apart : (i j : ℕ) → i < suc tail → j < suc tail → queue' i ≡ queue' j → i ≡ j
          apart i j a b e =
              split (below_suc i tail a)
              (λ p. split (below_suc j tail b) (λ q. p ∙ sym q)
              (λ q. absurd (other j q (sym (same j q) ∙ sym e ∙ ap queue' p ∙ last))))
              (λ p. split (below_suc j tail b)
              (λ q. absurd (other i p (sym (same i p) ∙ e ∙ ap queue' q ∙ last)))
              (λ q. h.once i j p q (sym (same i p) ∙ e ∙ same j q)))

  -- ---- the turn of the next cell

  pub spreading-next : head < tail → ((c : ℕ) → c < n → touch (queue head) c → Seen c)
      → Spreading touch n queue from (suc head) tail (λ (c : ℕ). ⊥)
  spreading-next more around = record {
    some = h.some;
    order = more;
    queued = h.queued;
    once = h.once;
    found = h.found;
    came = h.came;
    late = λ i l. let m = h.late i l in omega arith;
    sorted = h.sorted;
    soon = λ i j a l t. split (below_suc i head a) (λ e. let m = h.late j l in omega arith) (λ b. h.soon i j b l t);
    rising = h.rising;
    done = λ i c a l m t. split (below_suc i head a)
        (λ e. h.seen c l (around c l (subst₂ touch (ap queue e) refl t)) m) (λ b. h.done i c b l m t);
    seen = λ c l s m. absurd s;
    fresh = λ i p l e. let m = h.late i l in absurd (omega arith);
  }

  pub spreading-done : {In : ℕ → Type 0} {start : ℕ} → tail ≤ head → queue 0 ≡ start
      → ((c : ℕ) → c < n → (from c ≤ n) ↔ In c) → ((c : ℕ) → In c → c < n) → Spread touch In start queue from tail
  spreading-done over first gates small = record {
    some = h.some;
    first = first;
    inside = λ i l. let (a, b) = h.queued i l in (gates (queue i) a).0 (omega arith);
    once = h.once;
    all = λ i c l t m. let k = small c m in h.found c k (h.done i c (omega arith) k ((gates c k).1 m) t);
    came = h.came;
    sorted = h.sorted;
    soon = λ i j l m t. h.soon i j (omega arith) m t;
    rising = h.rising;
  }
