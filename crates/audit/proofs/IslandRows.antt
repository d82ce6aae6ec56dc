-- The island of an account, compared with a flood. The reached cells in reading order are the island above k, where the
-- flood is from the peak at k + 1; and a walk through the cells below n, which goes on in the row at each reached cell,
-- tells whether the row is that one. Its invariant: the row is the reached cells so far, and what is left of it.
--     row-skip, row-take         a cell that is not reached, and one that is
--     row-next                   at a reached cell the row has to go on with it
--     next-is, next-not, row-ended   what the row's iterator tells
-- Assumes nothing.
use mathlib.Core.Path.{◌≡◌, refl, sym, ap, ◌∙◌}
use mathlib.Core.Bool.{Bool, true, false, cond, not}
use mathlib.Core.List.{List, [], ◌∷◌, ◌++◌, append-nil, append_assoc}
use Prim.Native.Nat.{ℕ, zero, suc, ◌+◌, ◌≤◌, ◌<◌}
use native.Mathlib.Numerals.{add-one}
use native.Mathlib.Omega.{arith}
use lib.Dec.{eqb}
use lib.ListN.{length}
use borrow.Author.Tests.{eqb-true, eqb-false}
use Rattle.relief.specs.Inner.{Decides, row_below}
use Rattle.relief.proofs.Tests.{split, le-or-lt, confirmed, refuted}
use Rattle.std.specs.Option.{option_eq, is_some}
use Rattle.std.specs.Slice.Iter.{iter_rest, iter_steps}
use Rattle.std.proofs.Common.{Option, None, Some, Bor, Iter}
use Rattle.std.proofs.lemmas.List.{append_cancel_left}

-- ---- the walk

empty : (l : List ℕ) → length l ≡ 0 → l ≡ []
empty [] e = refl
empty (x ∷ l) e = absurd (omega arith)

-- the row of the cells below n begins with the row of those below c
row-begins : (f : ℕ → Bool) (c n : ℕ) → c ≤ n → (m : List ℕ) × (row_below f n ≡ row_below f c ++ m)
unfolding row_below
row-begins f c zero l = let e : c ≡ 0 = omega arith in ([], rw e refl)
row-begins f c (suc n) l =
    split (le-or-lt c n)
    (λ h. let (m, e) = row-begins f c n h in (
      m ++ cond (f n) (n ∷ []) [],
      ap (λ (r : List ℕ). r ++ cond (f n) (n ∷ []) []) e ∙ append_assoc (row_below f c) m (cond (f n) (n ∷ []) []),
    ))
    (λ h. let e : c ≡ suc n = omega arith in ([], sym (append-nil (row_below f c) ∙ ap (row_below f) e)))

-- the row, as far as it was compared with the cells below c, and what is left of it
module _ (f : ℕ → Bool) (c : ℕ) (rest : List ℕ) {island : List ℕ} (h : island ≡ row_below f c ++ rest) where
  pub row-skip : f c ≡ false → island ≡ row_below f (c + 1) ++ rest
  unfolding row_below
  row-skip miss = rw add-one (h ∙ simp (miss, append-nil))

  pub row-take : {left : List ℕ} → f c ≡ true → rest ≡ c ∷ left → island ≡ row_below f (c + 1) ++ left
  unfolding row_below
  row-take hit e = rw add-one (h ∙ rw e (simp (hit, append_assoc)))

  -- at a reached cell the row of all of them goes on with it
  pub row-next : {n : ℕ} → c < n → f c ≡ true → island ≡ row_below f n → (left : List ℕ) × (rest ≡ c ∷ left)
  unfolding row_below
  row-next {n} l hit e =
      let (m, q) = row-begins f (suc c) n l in (
        m,
        append_cancel_left (row_below f c) rest (c ∷ m)
            (sym h ∙ e ∙ q ∙ simp hit (append_assoc (row_below f c) (c ∷ []) m)),
      )

-- ---- what the row's iterator tells

-- it gives the cell that is compared
pub next-is : (s t : Iter ℕ) (r : Option (Bor ℕ)) (y : Bor ℕ) → iter_steps s r t
    → option_eq (λ x z. eqb x.now z.now) r (Some y) ≡ true → iter_rest s ≡ y.now ∷ iter_rest t
next-is s t None y p e = cc
next-is s t (Some x) y p e = p ∙ ap (λ (d : ℕ). d ∷ iter_rest t) (eqb-true x.now y.now e)

pub next-not : (s t : Iter ℕ) (r : Option (Bor ℕ)) (y : Bor ℕ) {left : List ℕ} → iter_steps s r t
    → option_eq (λ x z. eqb x.now z.now) r (Some y) ≡ false → iter_rest s ≡ y.now ∷ left → ⊥
next-not s t None y (p, q) e f = omega (arith, ap length f)
next-not s t (Some x) y p e f = eqb-false x.now y.now e (let g = sym p ∙ f in cc)

-- and whether nothing is left
pub row-ended : (f : ℕ → Bool) (n : ℕ) {island : List ℕ} (s t : Iter ℕ) (r : Option (Bor ℕ)) (b : Bool)
    → island ≡ row_below f n ++ iter_rest s → iter_steps s r t → is_some r ≡ not b → Decides (island ≡ row_below f n) b
row-ended f n s t None true h (p, q) e = confirmed (h ∙ rw (empty _ p) (append-nil _))
row-ended f n s t None false h p e = cc
row-ended f n s t (Some x) true h p e = cc
row-ended f n s t (Some x) false h p e =
    refuted (λ g. let d = append_cancel_left (row_below f n) _ [] (sym h ∙ g ∙ sym (append-nil (row_below f n))) in
    let q = sym p ∙ d in cc)
