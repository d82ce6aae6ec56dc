-- Lists of entries with different cells. Where the cells are below n + 1 there are at most that many: take the entry of
-- the cell n out, and the cells of the others are below n.
--     Apart l                       no two entries of the list have one cell
--     apart-append                  two such lists, joined, where no entry of one has a cell of the other
--     apart-few                     with cells below n there are at most n
--     rising-apart, falling-apart   a list in reading order is such a list, and one of peaks in pass order
-- Assumes nothing.
use mathlib.Core.Path.{◌≡◌, refl, sym, ap, ◌∙◌, subst}
use mathlib.Core.Bool.{Bool, true, false, cond}
use mathlib.Core.List.{List, [], ◌∷◌, ◌++◌}
use mathlib.Core.Logic.{inl, inr}
use Prim.Native.Nat.{ℕ, zero, suc, ◌≤◌, ◌<◌}
use native.Mathlib.Omega.{arith}
use lib.Dec.{eqb}
use lib.ListN.{length}
use borrow.Author.Tests.{eqb-true, eqb-false}
use Rattle.relief.specs.Peaks.{Entry, Member, Rising, PeakEntry}
use Rattle.relief.specs.Outline.{Sooner, Falling}
use Rattle.relief.proofs.Tests.{split}
use Rattle.relief.proofs.Lists.{entry-unique, Sorted, rising-member}
use Rattle.relief.proofs.Families.{sooner-asym}
use Rattle.survey.proofs.Places.{member-cases}

abbrev pub Apart : List Entry → Type 0
Apart = Sorted (λ d e. d.cell ≡ e.cell → ⊥)

-- ---- joined lists

pub apart-append : (l m : List Entry) → Apart l → Apart m
    → ((d e : Entry) → Member d l → Member e m → d.cell ≡ e.cell → ⊥) → Apart (l ++ m)
apart-append [] m a b f = b
apart-append (x ∷ l) m a b f = (
  (λ e h. split (member-cases l m e h) (a.0 e) (f x e (inl refl))),
  apart-append l m a.1 b (λ d e h. f d e (inr h)),
)

-- ---- how many there are

-- the list without its first entry of the cell c
abbrev without : ℕ → List Entry → List Entry
without c [] = []
without c (x ∷ l) = cond (eqb x.cell c) l (x ∷ without c l)

record Without (c : ℕ) (l m : List Entry) : Type 0 where
  shorter : length l ≤ suc (length m)
  rest : (e : Entry) → Member e m → Member e l × (e.cell ≡ c → ⊥)
  apart : Apart m

without-done : (c : ℕ) (l : List Entry) → Apart l → Without c l (without c l)
without-done c [] a = record { shorter = omega arith; rest = λ e h. absurd h; apart = tt }
without-done c (x ∷ l) a = go (eqb x.cell c) refl (without-done c l a.1)
  where
    go : (b : Bool) → eqb x.cell c ≡ b → Without c l (without c l)
        → Without c (x ∷ l) (cond b l (x ∷ without c l))
    go true q h = record {
      shorter = omega arith;
      rest = λ e m. (inr m, λ o. a.0 e m (eqb-true x.cell c q ∙ sym o));
      apart = a.1;
    }
    go false q h = record {
      shorter = omega (arith, h.shorter);
      rest = λ e m. split m
          (λ o. (inl o, λ p. eqb-false x.cell c q (ap (λ (d : Entry). d.cell) (sym o) ∙ p)))
          (λ o. (inr (h.rest e o).0, (h.rest e o).1));
      apart = ((λ e m. a.0 e (h.rest e m).0), h.apart);
    }

pub apart-few : (n : ℕ) (l : List Entry) → Apart l → ((e : Entry) → Member e l → e.cell < n) → length l ≤ n
apart-few zero [] a h = omega arith
apart-few zero (x ∷ l) a h = absurd (omega (arith, h x (inl refl)))
apart-few (suc n) l a h =
    let w = without-done n l a in
    let ih = apart-few n (without n l) w.apart
    (λ e m. let d = (w.rest e m).1 in omega (arith, h e (w.rest e m).0)) in
    omega (arith, w.shorter)

-- ---- lists in order

pub rising-apart : (b : ℕ) (l : List Entry) → Rising b l → Apart l
rising-apart b [] r = tt
rising-apart b (x ∷ l) r = (
  (λ e m q. omega (arith, rising-member (suc x.cell) l e r.1 m)),
  rising-apart (suc x.cell) l r.1,
)

pub falling-apart : {touch : ℕ → ℕ → Type 0} {level : ℕ → ℕ} (l : List Entry)
    → ((e : Entry) → Member e l → PeakEntry touch level e) → Falling l → Apart l
falling-apart [] right f = tt
falling-apart (x ∷ l) right f = (
  (λ e m q.
      let same : x ≡ e = entry-unique x e (right x (inl refl)) (right e (inr m)) q in
      let itself : Sooner x x = subst (Sooner x) (sym same) (f.0 e m) in
      sooner-asym x x itself itself),
  falling-apart l (λ e m. right e (inr m)) f.1,
)
