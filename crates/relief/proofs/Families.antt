-- Families: two that the definition allows have the same tops and, under each peak, the same children; so two outlines
-- are equal. Of two children the sooner one is not also the later one, and so the order of a list is fixed by its
-- members.
--     sooner-asym, -trans, -total     the order of the passes under one peak; it is total where the cells differ
--     pass-order-unique               two lists in that order of the same entries are equal
--     outline-unique                  two outlines of the same are equal
-- Assumes nothing.
use mathlib.Core.Path.{◌≡◌, sym, ◌∙◌, fun_ext}
use mathlib.Core.List.{List, [], ◌∷◌}
use mathlib.Core.Logic.{◌⊎◌, inl, inr}
use Prim.Native.Nat.{ℕ, ◌<◌}
use native.Mathlib.Omega.{arith}
use Rattle.relief.specs.Peaks.{Entry, floor_of, pass_cell_of}
use Rattle.relief.specs.Outline.{Sooner, Falling, InPassOrder, outline_text, Outline}
use Rattle.relief.proofs.Tests.{split, le-or-lt}
use Rattle.relief.proofs.Lists.{Sorted, sorted-equal, order-unique}

-- ---- the order of passes

pub sooner-asym : (d e : Entry) → Sooner d e → Sooner e d → ⊥
sooner-asym d e (inl h) (inl i) = omega arith
sooner-asym d e (inl h) (inr (i, r)) = omega arith
sooner-asym d e (inr (h, q)) (inl i) = omega arith
sooner-asym d e (inr (h, inl q)) (inr (i, inl r)) = omega arith
sooner-asym d e (inr (h, inl q)) (inr (i, inr (r, u))) = omega arith
sooner-asym d e (inr (h, inr (q, s))) (inr (i, inl r)) = omega arith
sooner-asym d e (inr (h, inr (q, s))) (inr (i, inr (r, u))) = omega arith

pub sooner-trans : (c d e : Entry) → Sooner c d → Sooner d e → Sooner c e
sooner-trans c d e (inl h) (inl i) = inl (omega arith)
sooner-trans c d e (inl h) (inr (i, r)) = inl (omega arith)
sooner-trans c d e (inr (h, q)) (inl i) = inl (omega arith)
sooner-trans c d e (inr (h, inl q)) (inr (i, inl r)) = inr (h ∙ i, inl (omega arith))
sooner-trans c d e (inr (h, inl q)) (inr (i, inr (r, u))) = inr (h ∙ i, inl (omega arith))
sooner-trans c d e (inr (h, inr (q, s))) (inr (i, inl r)) = inr (h ∙ i, inl (omega arith))
sooner-trans c d e (inr (h, inr (q, s))) (inr (i, inr (r, u))) = inr (h ∙ i, inr (q ∙ r, omega arith))

-- of two numbers that differ one is less
apart : (a b : ℕ) → (a ≡ b) ⊎ ((a < b) ⊎ (b < a))
apart a b =
    split (le-or-lt a b) (λ l. split (le-or-lt b a) (λ m. inl (omega arith)) (λ m. inr (inl m))) (λ l. inr (inr l))

pub sooner-total : (d e : Entry) → (d.cell ≡ e.cell → ⊥) → Sooner d e ⊎ Sooner e d
sooner-total d e n =
    split (apart (floor_of e.key) (floor_of d.key))
    (λ f. split (apart (pass_cell_of d.key) (pass_cell_of e.key))
    (λ g. split (apart d.cell e.cell)
    (λ h. absurd (n h))
    (λ h. split h (λ i. inl (inr (sym f, inr (g, i)))) (λ i. inr (inr (f, inr (sym g, i))))))
    (λ h. split h (λ i. inl (inr (sym f, inl i))) (λ i. inr (inr (f, inl i)))))
    (λ h. split h (λ i. inl (inl i)) (λ i. inr (inl i)))

falling-sorted : (l : List Entry) → Falling l → Sorted Sooner l
falling-sorted [] f = tt
falling-sorted (x ∷ l) f = (f.0, falling-sorted l f.1)

pub pass-order-unique : {P : Entry → Type 0} (l m : List Entry) → InPassOrder P l → InPassOrder P m → l ≡ m
pass-order-unique l m h h' =
    sorted-equal sooner-asym l m (falling-sorted l h.falling) (falling-sorted m h'.falling)
    (λ e k. h'.complete e (h.sound e k)) (λ e k. h.complete e (h'.sound e k))

-- ---- outlines

pub outline-unique : {touch : ℕ → ℕ → Type 0} {level : ℕ → ℕ} {T levels : ℕ} {t u : List ℕ}
    → Outline touch level T levels t → Outline touch level T levels u → t ≡ u
outline-unique {levels = levels} h h' =
    let f = h.family in
    let f' = h'.family in
    let tops : f.tops ≡ f'.tops = order-unique f.tops f'.tops f.tops_right f'.tops_right in
    let children : f.children ≡ f'.children =
    fun_ext λ q. pass-order-unique (f.children q) (f'.children q) (f.children_right q) (f'.children_right q) in
    h.written ∙ (λ i. outline_text (children i) levels (tops i)) ∙ sym h'.written
