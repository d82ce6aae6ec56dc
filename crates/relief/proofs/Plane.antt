-- Plane touching is symmetric, irreflexive and told by a test; a cell touches at most eight; and the fence holds.
--     plane?, plane-decides     the test
--     place-number              a cell's number is that of its place
--     around rows c i           the i-th of the eight cells around c
--     plane-next                a cell touches the one beside it in the next column
--     plane-fence               a cell before the last column touches no cell of a further column
-- Assumes nothing.
use mathlib.Core.Path.{◌≡◌, refl, sym, ◌∙◌, ap}
use mathlib.Core.Bool.{Bool, not, ◌&&◌}
use mathlib.Core.List.{[], ◌∷◌}
use mathlib.Core.Logic.{◌⊎◌, inl, inr}
use Prim.Native.Nat.{ℕ, zero, suc, ◌+◌, ◌-◌, ◌*◌, ◌≤◌, ◌<◌, zero-le}
use native.Mathlib.Nat.{div-add-mod', div-lt_iff_lt-mul, le-div_iff_mul-le, suc-mul, mul-zero, le_antisymm}
use native.Mathlib.Nat.{add-mod_right, add-div_right}
use native.Mathlib.Omega.{arith}
use lib.Dec.{eqb, leb}
use lib.ListN.{get_or}
use Rattle.relief.specs.Plane.{row_of, column_of, Near, Plane}
use Rattle.relief.specs.Inner.{Decides}
use Rattle.relief.proofs.Tests.{split, and-decides, not-decides, le-decides, eq-decides, decides-iff, le-or-lt}

abbrev near? : ℕ → ℕ → Bool
near? x y = leb x (suc y) && leb y (suc x)

abbrev pub plane? : ℕ → ℕ → ℕ → Bool
plane? rows a b =
    near? (row_of rows a) (row_of rows b) && (near? (column_of rows a) (column_of rows b) && not (eqb a b))

near-decides : (x y : ℕ) → Decides (Near x y) (near? x y)
near-decides x y = and-decides (le-decides x (suc y)) (le-decides y (suc x))

pub plane-decides : (rows a b : ℕ) → Decides (Plane rows a b) (plane? rows a b)
plane-decides rows a b =
    decides-iff
    (λ h. record { row = h.0; column = h.1.0; other = h.1.1 })
    (λ h. (h.row, (h.column, h.other)))
    (and-decides (near-decides (row_of rows a) (row_of rows b))
    (and-decides (near-decides (column_of rows a) (column_of rows b)) (not-decides (eq-decides a b))))

pub plane-symmetric : (rows a b : ℕ) → Plane rows a b → Plane rows b a
plane-symmetric rows a b h = record {
  row = (h.row.1, h.row.0);
  column = (h.column.1, h.column.0);
  other = λ e. h.other (sym e);
}

pub plane-irreflexive : (rows a : ℕ) → Plane rows a a → ⊥
plane-irreflexive rows a h = h.other refl

pub place-number : (rows c : ℕ) → column_of rows c * rows + row_of rows c ≡ c
place-number rows c = div-add-mod' c rows

-- numbers that differ by at most one
near-cases : {x y : ℕ} → Near x y → (y ≡ x) ⊎ ((y ≡ suc x) ⊎ (x ≡ suc y))
near-cases {x} {y} h =
    split (le-or-lt y x)
    (λ l. split (le-or-lt x y) (λ k. inl (omega arith)) (λ k. inr (inr (let i = h.0 in omega arith))))
    (λ l. inr (inl (let i = h.1 in omega arith)))

pub around : ℕ → ℕ → ℕ → ℕ
around rows c i =
    get_or
    ((c - rows - 1) ∷ (c - rows) ∷ (c + 1 - rows) ∷ (c - 1) ∷ (c + 1)
    ∷ (c + rows - 1) ∷ (c + rows) ∷ (c + rows + 1) ∷ [])
    i 0

pub plane-eight : (rows c d : ℕ) → Plane rows c d → (i : ℕ) × (i < 8) × (d ≡ around rows c i)
unfolding around
plane-eight rows c d h =
    split (near-cases h.column) same (λ s. split s right left)
  where
    Found : Type 0
    Found = (i : ℕ) × (i < 8) × (d ≡ around rows c i)

    same : column_of rows d ≡ column_of rows c → Found
    same e =
        let m = ap (λ (x : ℕ). x * rows) e in
        let p = place-number rows c in
        let q = place-number rows d in
        split (near-cases h.row)
        (λ r. absurd (h.other (omega arith)))
        (λ s. split s (λ r. (4, omega arith, omega arith)) (λ r. (3, omega arith, omega arith)))

    right : column_of rows d ≡ suc (column_of rows c) → Found
    right e =
        let m : column_of rows d * rows ≡ column_of rows c * rows + rows =
        ap (λ (x : ℕ). x * rows) e ∙ suc-mul (column_of rows c) rows in
        let p = place-number rows c in
        let q = place-number rows d in
        split (near-cases h.row)
        (λ r. (6, omega arith, omega arith))
        (λ s. split s (λ r. (7, omega arith, omega arith)) (λ r. (5, omega arith, omega arith)))

    left : column_of rows c ≡ suc (column_of rows d) → Found
    left e =
        let m : column_of rows c * rows ≡ column_of rows d * rows + rows =
        ap (λ (x : ℕ). x * rows) e ∙ suc-mul (column_of rows d) rows in
        let p = place-number rows c in
        let q = place-number rows d in
        split (near-cases h.row)
        (λ r. (1, omega arith, omega arith))
        (λ s. split s (λ r. (2, omega arith, omega arith)) (λ r. (0, omega arith, omega arith)))

-- where there is a cell, there is a row
pub cell-rows : (rows columns c : ℕ) → c < columns * rows → 0 < rows
cell-rows rows columns c l =
    split (le-or-lt rows 0)
    (λ z. let e : columns * rows ≡ 0 = ap (λ (x : ℕ). columns * x) (le_antisymm z zero-le) ∙ mul-zero columns in
    absurd (omega arith))
    (λ z. z)

pub plane-next : (rows c : ℕ) → 0 < rows → Plane rows c (c + rows)
plane-next rows c l =
    let e : row_of rows (c + rows) ≡ row_of rows c = add-mod_right c rows in
    let f : column_of rows (c + rows) ≡ column_of rows c + 1 = add-div_right c l in
    record { row = (omega arith, omega arith); column = (omega arith, omega arith); other = λ q. omega arith }

pub plane-fence : (rows columns a d : ℕ) → a < columns * rows - rows → columns * rows ≤ d → Plane rows a d → ⊥
plane-fence rows zero a d l m h = absurd (omega arith)
plane-fence rows (suc j) a d l m h =
    let e : suc j * rows ≡ j * rows + rows = suc-mul j rows in
    let r = cell-rows rows (suc j) a (omega arith) in
    let x : column_of rows a < j = (div-lt_iff_lt-mul r).1 (omega arith) in
    let y : suc j ≤ column_of rows d = (le-div_iff_mul-le r).1 m in
    let z = h.column in
    omega arith
