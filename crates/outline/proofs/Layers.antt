-- The entries of an outline, layer by layer: first the tops, then the children of the entries of a layer. An entry of
-- layer d has just d ancestors, for a top has no parent and every other peak has one; so no cell stands in two layers.
-- In a layer each cell stands once, under its one parent. So all entries together have different cells, and there are
-- at most as many as there are cells.
--     offspring children l       the children of the entries of a list, one list behind the other
--     layers children left l     a list, its offspring, theirs, and so on: so many layers more, one behind the other
--     Ancestors d p              the peak p has d ancestors
--     Descendant d e             the entry of a peak that has d ancestors
--     Layer d l                  such entries, of different cells
--     offspring-member           an entry of the offspring is a child of an entry of the list
--     ancestors-unique           a peak has one number of ancestors
--     children-few               a peak has at most as many children as there are cells
--     tops-layer                 the tops are layer 0
--     offspring-layer            the offspring of a layer is the next one
--     layers-member              what stands in a layer or below it has no fewer ancestors
--     layers-apart               the entries of a layer and of those below it have different cells
--     outline-few                all layers together have at most as many entries as there are cells
-- Assumes nothing.
use mathlib.Core.Path.{◌≡◌, refl, sym, ap, subst}
use mathlib.Core.Bool.{Bool}
use mathlib.Core.List.{List, [], ◌∷◌, ◌++◌}
use mathlib.Core.Logic.{inl, inr}
use Prim.Native.Nat.{ℕ, zero, suc, ◌≤◌}
use native.Mathlib.Omega.{arith}
use lib.ListN.{length}
use Rattle.relief.specs.Peaks.{NoKey, Entry, Member, PeakEntry}
use Rattle.relief.specs.Outline.{Parent, Family}
use Rattle.relief.proofs.Tests.{split}
use Rattle.relief.proofs.Flats.{Terrain, land-below}
use Rattle.relief.proofs.Parents.{parent-unique, parent-none}
use Rattle.survey.proofs.Places.{member-cases}
use Rattle.outline.proofs.Apart.{Apart, apart-append, apart-few, rising-apart, falling-apart}

abbrev pub offspring : (ℕ → List Entry) → List Entry → List Entry
offspring children [] = []
offspring children (e ∷ l) = children e.cell ++ offspring children l

abbrev pub layers : (ℕ → List Entry) → ℕ → List Entry → List Entry
layers children zero l = l
layers children (suc left) l = l ++ layers children left (offspring children l)

-- the parent, the parent's parent, and so on, up to a peak without key height
abbrev Ancestors : (ℕ → ℕ → Type 0) → (ℕ → ℕ) → ℕ → ℕ → Type 0
Ancestors touch level zero p = NoKey touch level p
Ancestors touch level (suc d) p = (q : ℕ) × Parent touch level p q × Ancestors touch level d q

record Descendant (touch : ℕ → ℕ → Type 0) (level : ℕ → ℕ) (d : ℕ) (e : Entry) : Type 0 where
  right : PeakEntry touch level e
  ancestors : Ancestors touch level d e.cell

record Layer (touch : ℕ → ℕ → Type 0) (level : ℕ → ℕ) (d : ℕ) (l : List Entry) : Type 0 where
  apart : Apart l
  member : (e : Entry) → Member e l → Descendant touch level d e

pub offspring-member : (children : ℕ → List Entry) (l : List Entry) (e : Entry) → Member e (offspring children l)
    → (d : Entry) × Member d l × Member e (children d.cell)
offspring-member children [] e m = absurd m
offspring-member children (x ∷ l) e m =
    let ih = offspring-member children l e in
    split (member-cases (children x.cell) (offspring children l) e m)
    (λ h. (x, inl refl, h)) (λ h. let r = ih h in (r.0, inr r.1, r.2))

-- ---- peaks

module _ {touch : ℕ → ℕ → Type 0} {touch? : ℕ → ℕ → Bool} {level : ℕ → ℕ} {n : ℕ}
    (t : Terrain touch touch? level n) where
  ancestors-unique : (d d' p : ℕ) → Ancestors touch level d p → Ancestors touch level d' p → d ≡ d'
  ancestors-unique zero zero p h h' = refl
  ancestors-unique zero (suc d') p h h' = absurd (parent-none t h h'.1)
  ancestors-unique (suc d) zero p h h' = absurd (parent-none t h' h.1)
  ancestors-unique (suc d) (suc d') p h h' =
      ap suc (ancestors-unique d d' h.0 h.2
      (subst (Ancestors touch level d') (parent-unique t h'.1 h.1) h'.2))

  entries-few : (l : List Entry) → Apart l → ((e : Entry) → Member e l → PeakEntry touch level e) → length l ≤ n
  entries-few l a h = apart-few n l a (λ e m. land-below t e.cell (h e m).peak.land)

  module _ {T : ℕ} (family : Family touch level T) where
    -- ---- children

    pub children-entry : (q : ℕ) (e : Entry) → Member e (family.children q) → PeakEntry touch level e
    children-entry q e m = ((family.children_right q).sound e m).listed.right

    children-apart : (q : ℕ) → Apart (family.children q)
    children-apart q = falling-apart (family.children q) (children-entry q) (family.children_right q).falling

    pub children-few : (q : ℕ) → length (family.children q) ≤ n
    children-few q = entries-few (family.children q) (children-apart q) (children-entry q)

    offspring-apart : (l : List Entry) → Apart l → Apart (offspring family.children l)
    offspring-apart [] a = tt
    offspring-apart (x ∷ l) a =
        apart-append (family.children x.cell) (offspring family.children l) (children-apart x.cell)
        (offspring-apart l a.1) (λ d e h m q.
        let r = offspring-member family.children l e m in
        let under : Parent touch level d.cell x.cell = ((family.children_right x.cell).sound d h).under in
        let other : Parent touch level e.cell r.0.cell =
        ((family.children_right r.0.cell).sound e r.2).under in
        a.0 r.0 r.1
        (parent-unique t under (subst (λ (p : ℕ). Parent touch level p r.0.cell) (sym q) other)))

    -- ---- layers

    tops-layer : Layer touch level 0 family.tops
    tops-layer = record {
      apart = rising-apart 0 family.tops family.tops_right.rising;
      member = λ e m. let top = family.tops_right.sound e m in
          record { right = top.listed.right; ancestors = top.keyless };
    }

    offspring-layer : (d : ℕ) (l : List Entry) → Layer touch level d l
        → Layer touch level (suc d) (offspring family.children l)
    offspring-layer d l h = record {
      apart = offspring-apart l h.apart;
      member = λ e m.
          let (p, i, j) = offspring-member family.children l e m in
          let child = (family.children_right p.cell).sound e j in
          record { right = child.listed.right; ancestors = (p.cell, child.under, (h.member p i).ancestors) };
    }

    layers-member : (left d : ℕ) (l : List Entry) → Layer touch level d l
        → (e : Entry) → Member e (layers family.children left l)
        → (d' : ℕ) × (d ≤ d') × Descendant touch level d' e
    layers-member zero d l h e m = (d, omega arith, h.member e m)
    layers-member (suc left) d l h e m =
        let next = offspring family.children l in
        let ih = layers-member left (suc d) next (offspring-layer d l h) e in
        split (member-cases l (layers family.children left next) e m)
        (λ i. (d, omega arith, h.member e i))
        (λ i. let (d', more, descendant) = ih i in (d', omega arith, descendant))

    layers-apart : (left d : ℕ) (l : List Entry) → Layer touch level d l → Apart (layers family.children left l)
    layers-apart zero d l h = h.apart
    layers-apart (suc left) d l h =
        let next = offspring family.children l in
        let below = offspring-layer d l h in
        apart-append l (layers family.children left next) h.apart (layers-apart left (suc d) next below)
        (λ x e i m q.
        let (d', more, descendant) = layers-member left (suc d) next below e m in
        let same : d ≡ d' = ancestors-unique d d' e.cell
        (subst (Ancestors touch level d) q (h.member x i).ancestors) descendant.ancestors in
        omega arith)

    pub outline-few : (left : ℕ) → length (layers family.children left family.tops) ≤ n
    outline-few left =
        entries-few (layers family.children left family.tops) (layers-apart left 0 family.tops tops-layer)
        (λ e m. (layers-member left 0 family.tops tops-layer e m).2.right)
