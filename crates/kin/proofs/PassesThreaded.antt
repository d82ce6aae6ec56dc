-- Threading the passes under their upper peaks, place by place from the last of the order on.
--     threaded-start     nothing is done yet
--     threaded-step      one cell seen to
--     threaded-back      the loop's next place is one less than its count
-- The cells of the order are all different, and no upper peak is a pass: so a pass still to come has its number of
-- before, and the rows of other peaks stay. Assumes nothing.
use mathlib.Core.Path.{◌≡◌, refl, sym, ◌∙◌, ap, subst}
use mathlib.Core.Bool.{Bool, true, false}
use mathlib.Core.List.{List}
use mathlib.Core.Logic.{◌⊎◌, inl, inr}
use Prim.Native.Nat.{ℕ, suc, ◌+◌, ◌-◌, ◌*◌, ◌≤◌, ◌<◌}
use native.Mathlib.Omega.{arith}
use native.Mathlib.Decide.{ℕ_discrete}
use Rattle.relief.proofs.Tests.{split, below_suc}
use Rattle.area.specs.Area.{level_in, parent_in, pass_in, pass_of, cell_in, mark_in, prio}
use Rattle.sweep.specs.Sweep.{cell_at}
use Rattle.kin.specs.Inner.{Row, Under, Threading, Threaded, Put, ThreadedCell, left, put}
use Rattle.kin.proofs.Chains.{row-none, row_same, row_more}
use Rattle.kin.proofs.ListedCells.{test-apart}

pub threaded-start : (s : List ℕ) (n m : ℕ) → Threaded s s n m m
threaded-start s n m = record {
  below = omega arith;
  row = λ q l e k. row-none k (λ x u. let a = u.from in let b = u.to in omega arith);
  left = λ j l e. refl;
  other = λ j d. refl;
  len = refl;
}

-- the row of a peak q, once the places from i on are seen to
abbrev RowAt : List ℕ → List ℕ → ℕ → ℕ → ℕ → ℕ → Type 0
RowAt s t n m i q =
    Row (pass_in t n) n (pass_in t n q) (λ x y. prio (level_in s) x < prio (level_in s) y) (Under s n m i q) (m - i)

module _ {s t : List ℕ} {n m i : ℕ} (w : Threading s n m) (h : Threaded s t n m (suc i)) where
  here : i < m
  here = h.below

  abbrev x : ℕ
  x = cell_at s n i

  abbrev mark : ℕ → Bool
  mark c = mark_in (parent_in s n c)

  inside : x < n
  inside = (w.ordered.inside i here).0

  order_same : cell_at t n i ≡ x
  order_same = let f = w.ordered.few in let l = here in ap cell_in (h.other (n + i) (λ a b. omega arith))

  mark-same : (c : ℕ) → c < n → mark_in (parent_in t n c) ≡ mark c
  mark-same c l = ap mark_in (h.other (2 * n + c) (λ a b. omega arith))

  -- a later cell of the order is another, of less priority
  later : (j y : ℕ) → suc i ≤ j → j < m → cell_at s n j ≡ y → prio (level_in s) x < prio (level_in s) y
  later j y l k e = let r = w.ordered.rising i j l k in let f = ap (prio (level_in s)) e in omega arith

  not-later : (j y : ℕ) → suc i ≤ j → j < m → cell_at s n j ≡ y → y ≡ x → ⊥
  not-later j y l k e q = let r = later j y l k e in let f = ap (prio (level_in s)) q in omega arith

  -- what is to be threaded from i on is what is from the next on, and x
  under-on : (q y : ℕ) → Under s n m (suc i) q y → Under s n m i q y
  under-on q y u = record {
    place = u.place;
    from = let l = u.from in omega arith;
    to = u.to;
    cell = u.cell;
    pass = u.pass;
    upper = u.upper;
  }

  under_back : (q y : ℕ) → Under s n m i q y → (y ≡ x) ⊎ Under s n m (suc i) q y
  under_back q y u =
      split (below_suc i u.place (let l = u.from in omega arith))
      (λ e. inl (sym u.cell ∙ ap (cell_at s n) (sym e)))
      (λ l. inr (record {
        place = u.place;
        from = l;
        to = u.to;
        cell = u.cell;
        pass = u.pass;
        upper = u.upper;
      }))

  -- ---- its upper peak

  module _ (pass : mark x ≡ true) where
    upper-same : pass_of t n x ≡ pass_of s n x
    upper-same = ap cell_in (h.left i (omega arith) pass)

    upper-below : pass_of s n x < n
    upper-below = (w.uppers x inside (w.ordered.inside i here).1 pass).0

    upper-plain : mark (pass_of s n x) ≡ false
    upper-plain = (w.uppers x inside (w.ordered.inside i here).1 pass).1

  -- ---- a cell that is no pass

  threaded-left : mark x ≡ false → Threaded s t n m i
  threaded-left e = record {
    below = let l = here in omega arith;
    row = λ q l f k. row_same (h.row q l f k) (λ y u. refl) refl (under-on q)
        (λ y u. split (under_back q y u) (λ g. absurd (test-apart mark u.pass e g)) (λ v. v)) (omega arith);
    left = λ j l f. h.left j (omega arith) f;
    other = h.other;
    len = h.len;
  }

  -- ---- a pass, and its upper peak p

  module _ {u : List ℕ} {p : ℕ} (at : pass_of s n x ≡ p) (pass : mark x ≡ true) (g : Put t u n x p) where
    plain : mark p ≡ false
    plain = ap mark (sym at) ∙ upper-plain pass

    below : p < n
    below = let l = upper-below pass in omega arith

    number-else : (c : ℕ) → (c ≡ x → ⊥) → (c ≡ p → ⊥) → pass_in u n c ≡ pass_in t n c
    number-else c a b = g.other (3 * n + c) (λ e. a (omega arith)) (λ e. b (omega arith))

    -- a pass of a later place keeps its number
    later_same : (q y : ℕ) → Under s n m (suc i) q y → pass_in u n y ≡ pass_in t n y
    later_same q y v =
        number-else y (not-later v.place y v.from v.to v.cell) (test-apart mark v.pass plain)

    row-own : n ≤ pass_in s n p → RowAt s u n m i p
    row-own k =
        let l = here in
        row_more (h.row p below plain k) (later_same p) g.first inside g.own
        (λ y v. later v.place y v.from v.to v.cell)
        (record { place = i; from = omega arith; to = here; cell = refl; pass = pass; upper = at })
        (under-on p) (under_back p) (omega arith)

    row-else : (q : ℕ) → q < n → mark q ≡ false → n ≤ pass_in s n q → (q ≡ p → ⊥) → RowAt s u n m i q
    row-else q l f k a =
        row_same (h.row q l f k) (later_same q)
        (number-else q (λ e. test-apart mark pass f (sym e)) a) (under-on q)
        (λ y v. split (under_back q y v) (λ e. absurd (a (sym v.upper ∙ ap (pass_of s n) e ∙ at))) (λ o. o))
        (omega arith)

    threaded-put : Threaded s u n m i
    threaded-put = record {
      below = let l = here in omega arith;
      row = λ q l f k. elim (ℕ_discrete q p) [
        | yes e ↦ subst (RowAt s u n m i) (sym e) (row-own (subst (λ (z : ℕ). n ≤ pass_in s n z) e k))
        | no e ↦ row-else q l f k e
      ];
      left = λ j l f.
          number-else (cell_at s n j)
          (λ e. let r = w.ordered.rising j i l here in let o = ap (prio (level_in s)) e in omega arith)
          (test-apart mark f plain)
          ∙ h.left j (omega arith) f;
      other = λ j d.
          let a = inside in
          let b = below in
          g.other j (λ e. d (omega arith) (omega arith)) (λ e. d (omega arith) (omega arith)) ∙ h.other j d;
      len = g.len ∙ h.len;
    }

  pub threaded-step : {u : List ℕ} {y : ℕ} → y ≡ cell_at t n i → ThreadedCell t u n y → Threaded s u n m i
  threaded-step {u} {y} e c = go (subst (ThreadedCell t u n) (e ∙ order_same) c)
    where
      go : ThreadedCell t u n x → Threaded s u n m i
      go (left f q) =
          subst (λ (v : List ℕ). Threaded s v n m i) (sym q) (threaded-left (sym (mark-same x inside) ∙ f))
      go (put f g) =
          let pass = sym (mark-same x inside) ∙ f in threaded-put (sym (upper-same pass)) pass g

-- ---- the loop's count

pub threaded-back : {s t : List ℕ} {n m k : ℕ} → 0 < k → Threaded s t n m k → Threaded s t n m (suc (k - 1))
threaded-back {s} {t} {n} {m} l h = subst (Threaded s t n m) (omega arith) h
