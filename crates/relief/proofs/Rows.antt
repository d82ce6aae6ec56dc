-- Rows of cells, and ways as rows: laws of `InOrder`, `cells_of`, `FirstWay` and `Distinct`, over any way of touching.
-- Two rows that rise and hold the same cells begin with the same cell, their least, and so on. A row whose cells touch,
-- each the next one, is a way, and each way is such a row. A shortest way has no cell twice: were its first cell among
-- the others, it could begin there; and what is left of it without the first cell is a shortest way again.
--     order-row-unique            rows in reading order of the same cells are equal
--     row_below_lem, -length          the cells below a number that pass a test are such a row, and how long it is
--     way-of-row                  a row of which each cell touches the next is a way
--     row-some, -first, -last     the row of a way has a cell, and begins and ends where the way does; ..
--     row_inside, -steps          .. it stays in the set of the way, and each of its cells touches the next
--     first-way-unique            from one cell to another there is one first way
--     shortest-distinct, first-way-distinct    a shortest way, and so the first one, has no cell twice
-- Assumes nothing.
use mathlib.Core.Path.{◌≡◌, refl, sym, ap, ◌∙◌, subst}
use mathlib.Core.Bool.{Bool, true, false, cond}
use mathlib.Core.List.{List, [], ◌∷◌, ◌++◌, append-nil}
use mathlib.Core.Logic.{◌⊎◌, inl, inr, ◌↔◌}
use Prim.Native.Nat.{ℕ, zero, suc, ◌-◌, ◌≤◌, ◌<◌, zero-le}
use native.Mathlib.Nat.{le_antisymm, le_refl}
use native.Mathlib.Omega.{arith}
use native.Mathlib.Numerals.{unary_clauses}
use lib.ListN.{length, get_or, length-append}
use Rattle.relief.specs.Peaks.{Way, alone, onward}
use Rattle.relief.specs.Accounts.{cells_of, Holds, Ascends, InOrder, NotLater, FirstWay, Distinct}
use Rattle.relief.specs.Inner.{Decides, row_below}
use Rattle.relief.proofs.Tests.{split, below_suc}

-- ---- rows in reading order

pub ascends-holds : (b : ℕ) (l : List ℕ) (c : ℕ) → Ascends b l → Holds l c → b ≤ c
ascends-holds b [] c r h = absurd h
ascends-holds b (x ∷ l) c r (inl e) = let m = r.0 in omega arith
ascends-holds b (x ∷ l) c r (inr h) = let m = r.0 in omega (arith, ascends-holds (suc x) l c r.1 h)

rows-equal : (b b' : ℕ) (l m : List ℕ) → Ascends b l → Ascends b' m
    → ((c : ℕ) → Holds l c → Holds m c) → ((c : ℕ) → Holds m c → Holds l c) → l ≡ m
rows-equal b b' [] [] r s f g = refl
rows-equal b b' [] (y ∷ m) r s f g = absurd (g y (inl refl))
rows-equal b b' (x ∷ l) [] r s f g = absurd (f x (inl refl))
rows-equal b b' (x ∷ l) (y ∷ m) r s f g =
    let u = ascends-holds y (y ∷ m) x (le_refl y, s.1) (f x (inl refl)) in
    let v = ascends-holds x (x ∷ l) y (le_refl x, r.1) (g y (inl refl)) in
    let e : x ≡ y = le_antisymm v u in
    let rest : l ≡ m =
    rows-equal (suc x) (suc y) l m r.1 s.1
    (λ c h. split (f c (inr h)) (λ i. absurd (omega (arith, ascends-holds (suc x) l c r.1 h))) (λ i. i))
    (λ c h. split (g c (inr h)) (λ i. absurd (omega (arith, ascends-holds (suc y) m c s.1 h))) (λ i. i)) in
    cc

pub order-row-unique : {P : ℕ → Type 0} {l m : List ℕ} → InOrder P l → InOrder P m → l ≡ m
order-row-unique {P} {l} {m} h i =
    rows-equal 0 0 l m h.rising i.rising
    (λ c k. (i.just c).1 ((h.just c).0 k)) (λ c k. (h.just c).1 ((i.just c).0 k))

-- ---- the row of the cells that pass a test

holds-append : (l m : List ℕ) (c : ℕ) → Holds (l ++ m) c ↔ (Holds l c ⊎ Holds m c)
holds-append [] m c = (inr, λ s. split s (λ h. absurd h) (λ h. h))
holds-append (x ∷ l) m c =
    let ih = holds-append l m c in (
      λ s. split s (λ e. inl (inl e)) (λ h. split (ih.0 h) (λ i. inl (inr i)) inr),
      λ s. split s (λ i. split i inl (λ h. inr (ih.1 (inl h)))) (λ h. inr (ih.1 (inr h))),
    )

ascends-append : (b n : ℕ) (l : List ℕ) → b ≤ n → Ascends b l → ((c : ℕ) → Holds l c → c < n)
    → Ascends b (l ++ (n ∷ []))
ascends-append b n [] h r f = (h, tt)
ascends-append b n (x ∷ l) h r f =
    (r.0, ascends-append (suc x) n l (f x (inl refl)) r.1 (λ c i. f c (inr i)))

-- the cells that pass are those of P, of the cells below n
below-order : {P : ℕ → Type 0} (f : ℕ → Bool) (n : ℕ) → ((c : ℕ) → c < n → Decides (P c) (f c))
    → InOrder (λ c. P c × (c < n)) (row_below f n)
unfolding row_below
below-order f zero d = record { rising = tt; just = λ c. (λ h. absurd h, λ q. let l = q.1 in omega arith) }
below-order {P} f (suc n) d = go (f n) (d n (omega arith)) (below-order f n (λ c l. d c (omega arith)))
  where
    go : (b : Bool) → Decides (P n) b → InOrder (λ c. P c × (c < n)) (row_below f n)
        → InOrder (λ c. P c × (c < suc n)) (row_below f n ++ cond b (n ∷ []) [])
    go true t h = record {
      rising = ascends-append 0 n (row_below f n) zero-le h.rising (λ c i. ((h.just c).0 i).1);
      just = λ c. (
        λ i. split ((holds-append (row_below f n) (n ∷ []) c).0 i)
            (λ j. let (p, l) = (h.just c).0 j in (p, omega arith))
            (λ j. split j (λ e. (subst P (sym e) (t.holds refl), omega arith)) (λ k. absurd k)),
        λ q. (holds-append (row_below f n) (n ∷ []) c).1 (split (below_suc c n q.1)
            (λ e. inr (inl e)) (λ l. inl ((h.just c).1 (q.0, l)))),
      );
    }
    go false t h = subst (InOrder (λ c. P c × (c < suc n))) (sym (append-nil (row_below f n))) (record {
      rising = h.rising;
      just = λ c. (
        λ i. let (p, l) = (h.just c).0 i in (p, omega arith),
        λ q. split (below_suc c n q.1)
            (λ e. absurd (t.fails refl (subst P e q.0))) (λ l. (h.just c).1 (q.0, l)),
      );
    })

pub row_below_lem : {P : ℕ → Type 0} (f : ℕ → Bool) (n : ℕ) → ((c : ℕ) → c < n → Decides (P c) (f c))
    → ((c : ℕ) → P c → c < n) → InOrder P (row_below f n)
row_below_lem f n d below =
    let h = below-order f n d in
    record { rising = h.rising; just = λ c. (λ i. ((h.just c).0 i).0, λ p. (h.just c).1 (p, below c p)) }

pub row-below-length : (f : ℕ → Bool) (n : ℕ) → length (row_below f n) ≤ n
unfolding row_below
row-below-length f zero = zero-le
row-below-length f (suc n) = go (f n) (row-below-length f n)
  where
    go : (b : Bool) → length (row_below f n) ≤ n → length (row_below f n ++ cond b (n ∷ []) []) ≤ suc n
    go true h = omega (arith, length-append (row_below f n) (n ∷ []))
    go false h = omega (arith, length-append (row_below f n) [])

-- ---- ways as rows

-- a row with a cell before it has the same last cell
last_cons : (x : ℕ) (l : List ℕ) → 0 < length l → get_or (x ∷ l) (length (x ∷ l) - 1) 0 ≡ get_or l (length l - 1) 0
last_cons x [] h = absurd (omega arith)
last_cons x (y ∷ l) h = simp unary_clauses refl

module _ {touch : ℕ → ℕ → Type 0} {In : ℕ → Type 0} where
  pub way-of-row : (row : List ℕ) → 0 < length row → ((i : ℕ) → i < length row → In (get_or row i 0))
      → ((i : ℕ) → suc i < length row → touch (get_or row i 0) (get_or row (suc i) 0))
      → (w : Way touch In (get_or row 0 0) (get_or row (length row - 1) 0)) × (cells_of w ≡ row)
  unfolding cells_of
  way-of-row [] l f g = absurd (omega arith)
  way-of-row (x ∷ []) l f g = (alone (f 0 (omega arith)), refl)
  way-of-row (x ∷ y ∷ m) l f g =
      let (w, e) = way-of-row (y ∷ m) (omega arith) (λ i h. f (suc i) (omega arith)) (λ i h. g (suc i) (omega arith)) in
      subst (λ (z : ℕ). (w : Way touch In x z) × (cells_of w ≡ x ∷ y ∷ m)) (sym (last_cons x (y ∷ m) (omega arith)))
      (onward (f 0 (omega arith)) (g 0 (omega arith)) w, ap (λ (r : List ℕ). x ∷ r) e)

  pub row-some : {a b : ℕ} (w : Way touch In a b) → 0 < length (cells_of w)
  unfolding cells_of
  row-some (alone i) = omega arith
  row-some (onward i t w) = omega arith

  pub row_first : {a b : ℕ} (w : Way touch In a b) → get_or (cells_of w) 0 0 ≡ a
  unfolding cells_of
  row_first (alone i) = refl
  row_first (onward i t w) = refl

  pub row_last : {a b : ℕ} (w : Way touch In a b) → get_or (cells_of w) (length (cells_of w) - 1) 0 ≡ b
  unfolding cells_of
  row_last (alone i) = refl
  row_last (onward {a} i t w) = last_cons a (cells_of w) (row-some w) ∙ row_last w

  pub row_inside : {a b : ℕ} (w : Way touch In a b) (i : ℕ) → i < length (cells_of w) → In (get_or (cells_of w) i 0)
  unfolding cells_of
  row_inside (alone i) zero l = i
  row_inside (alone i) (suc j) l = absurd (omega arith)
  row_inside (onward i t w) zero l = i
  row_inside (onward i t w) (suc j) l = row_inside w j (omega arith)

  pub row-steps : {a b : ℕ} (w : Way touch In a b) (i : ℕ) → suc i < length (cells_of w)
      → touch (get_or (cells_of w) i 0) (get_or (cells_of w) (suc i) 0)
  unfolding cells_of
  row-steps (alone i) j l = absurd (omega arith)
  row-steps (onward {a} i t w) zero l = subst (touch a) (sym (row_first w)) t
  row-steps (onward i t w) (suc j) l = row-steps w j (omega arith)

  -- ---- the first way

  -- the part of a way from one of its cells on
  way-from : {a b : ℕ} (w : Way touch In a b) (c : ℕ) → Holds (cells_of w) c
      → (v : Way touch In c b) × (length (cells_of v) ≤ length (cells_of w))
  unfolding cells_of
  way-from (alone {a} i) c (inl e) =
      subst (λ (x : ℕ). (v : Way touch In x a) × (length (cells_of v) ≤ 1)) (sym e) (alone i, le_refl 1)
  way-from (alone {a} i) c (inr h) = absurd h
  way-from {b} (onward {a} i t w) c (inl e) =
      subst (λ (x : ℕ). (v : Way touch In x b) × (length (cells_of v) ≤ suc (length (cells_of w)))) (sym e)
      (onward i t w, le_refl (suc (length (cells_of w))))
  way-from (onward {a} i t w) c (inr h) = let (v, l) = way-from w c h in (v, omega arith)

  pub shortest-distinct : {a b : ℕ} (w : Way touch In a b)
      → ((v : Way touch In a b) → length (cells_of w) ≤ length (cells_of v)) → Distinct (cells_of w)
  unfolding cells_of
  shortest-distinct (alone i) s = (λ h. h, tt)
  shortest-distinct (onward {a} i t w) s = (
    λ h. let (v, l) = way-from w a h in let m = s v in omega arith,
    shortest-distinct w (λ v. let m = s (onward i t v) in omega arith),
  )

pub first-way-distinct : {touch : ℕ → ℕ → Type 0} {In : ℕ → Type 0} {a b : ℕ} {l : List ℕ}
    → FirstWay touch In a b l → Distinct l
first-way-distinct {l = l} h =
    let e : length (cells_of h.way) ≡ length l = ap length h.cells in
    subst Distinct h.cells (shortest-distinct h.way (λ v. let s = h.shortest v in omega arith))

not-later-equal : (l m : List ℕ) → length l ≡ length m → NotLater l m → NotLater m l → l ≡ m
not-later-equal [] [] e h i = refl
not-later-equal [] (y ∷ m) e h i = absurd (omega arith)
not-later-equal (x ∷ l) [] e h i = absurd (omega arith)
not-later-equal (x ∷ l) (y ∷ m) e (inl h) (inl i) = absurd (omega arith)
not-later-equal (x ∷ l) (y ∷ m) e (inl h) (inr (f, i)) = absurd (omega arith)
not-later-equal (x ∷ l) (y ∷ m) e (inr (f, h)) (inl i) = absurd (omega arith)
not-later-equal (x ∷ l) (y ∷ m) e (inr (f, h)) (inr (g, i)) =
    let rest : l ≡ m = not-later-equal l m (omega arith) h i in cc

pub first-way-unique : {touch : ℕ → ℕ → Type 0} {In : ℕ → Type 0} {a b : ℕ} {l m : List ℕ}
    → FirstWay touch In a b l → FirstWay touch In a b m → l ≡ m
first-way-unique {l = l} {m = m} h i =
    let e : length (cells_of h.way) ≡ length l = ap length h.cells in
    let f : length (cells_of i.way) ≡ length m = ap length i.cells in
    let u = h.shortest i.way in
    let v = i.shortest h.way in
    let s : length l ≡ length m = omega arith in
    not-later-equal l m s
    (subst (NotLater l) i.cells (h.first i.way (omega arith)))
    (subst (NotLater m) h.cells (i.first h.way (omega arith)))
