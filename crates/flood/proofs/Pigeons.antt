-- As many different numbers as are below n are at most n. If one of them is n - 1, the last one takes its place, and
-- all but the last are different numbers below n - 1. Assumes nothing.
use mathlib.Core.Path.{◌≡◌, sym, ◌∙◌}
use mathlib.Core.Bool.{cond}
use Prim.Native.Nat.{ℕ, zero, suc, ◌≤◌, ◌<◌, zero-le}
use native.Mathlib.Nat.{not-suc-le-zero}
use native.Mathlib.Omega.{arith}
use lib.Dec.{eqb}
use borrow.Author.Tests.{eq-eqb, ne_eqb}
use Rattle.relief.proofs.Tests.{split, decide, any-decides, eq-decides, cond-true, cond-false}

-- f with its value at i replaced by v
swapped : (ℕ → ℕ) → ℕ → ℕ → ℕ → ℕ
swapped f i v j = cond (eqb j i) v (f j)

swapped_here : (f : ℕ → ℕ) (i v j : ℕ) → j ≡ i → swapped f i v j ≡ v
unfolding swapped
swapped_here f i v j e = cond-true (eqb j i) v (f j) (eq-eqb j i e)

swapped-there : (f : ℕ → ℕ) (i v j : ℕ) → (j ≡ i → ⊥) → swapped f i v j ≡ f j
unfolding swapped
swapped-there f i v j d = cond-false (eqb j i) v (f j) (ne_eqb j i d)

pub pigeons : (n m : ℕ) (f : ℕ → ℕ) → ((i : ℕ) → i < m → f i < n)
    → ((i j : ℕ) → i < m → j < m → f i ≡ f j → i ≡ j) → m ≤ n
pigeons n zero f inside once = zero-le
pigeons zero (suc m) f inside once = absurd (not-suc-le-zero (inside 0 (omega arith)))
pigeons (suc n) (suc m) f inside once =
    split (decide (any-decides (λ i. eq-decides (f i) n) (suc m)))
    (λ (i, l, e). let h = pigeons n m (swapped f i (f m)) (moved i l e) (apart i l) in omega arith)
    (λ none.
    let h =
    pigeons n m f (λ i l. let b = inside i (omega arith) in
    split (decide (eq-decides (f i) n)) (λ e. absurd (none (i, omega arith, e))) (λ d. omega arith))
    (λ i j l k e. once i j (omega arith) (omega arith) e) in
    omega arith)
  where
    -- none but i has the value n
    below : (i : ℕ) → i < suc m → f i ≡ n → (j : ℕ) → j < suc m → (j ≡ i → ⊥) → f j < n
    below i l e j k d =
        let b = inside j k in
        split (decide (eq-decides (f j) n)) (λ g. absurd (d (once j i k l (g ∙ sym e)))) (λ g. omega arith)

    moved : (i : ℕ) → i < suc m → f i ≡ n → (j : ℕ) → j < m → swapped f i (f m) j < n
    moved i l e j k =
        split (decide (eq-decides j i))
        (λ g. rw (swapped_here f i (f m) j g) (below i l e m (omega arith) (λ h. omega arith)))
        (λ g. rw (swapped-there f i (f m) j g) (below i l e j (omega arith) g))

    -- the values at two places that are not i, or at one and at the last
    apart : (i : ℕ) → i < suc m → (j k : ℕ) → j < m → k < m → swapped f i (f m) j ≡ swapped f i (f m) k → j ≡ k
    apart i l j k lj lk g =
        split (decide (eq-decides j i))
        (λ a. split (decide (eq-decides k i)) (λ b. a ∙ sym b)
        (λ b.
        let h : f m ≡ f k = sym (swapped_here f i (f m) j a) ∙ g ∙ swapped-there f i (f m) k b in
        let o = once m k (omega arith) (omega arith) h in
        absurd (omega arith)))
        (λ a. split (decide (eq-decides k i))
        (λ b.
        let h : f j ≡ f m = sym (swapped-there f i (f m) j a) ∙ g ∙ swapped_here f i (f m) k b in
        let o = once j m (omega arith) (omega arith) h in
        absurd (omega arith))
        (λ b.
        once j k (omega arith) (omega arith)
        (sym (swapped-there f i (f m) j a) ∙ g ∙ swapped-there f i (f m) k b)))
