-- Marks and ends in the numbers of links.
--     mark-none, mark-some    a cell alone has no mark, and one with the mark has
--     cell-some               and is that cell
--     first-*                 the first peak of a pass
-- Assumes nothing.
use mathlib.Core.Path.{◌≡◌, refl}
use mathlib.Core.Bool.{Bool, true, false, cond}
use Prim.Native.Nat.{ℕ, ◌+◌, ◌/◌, ◌%◌, ◌<◌}
use native.Mathlib.Omega.{arith}
use borrow.Author.Tests.{eq-eqb, ne_eqb}
use Rattle.area.specs.Area.{cell_in, mark_in}
use Rattle.kin.specs.Inner.{first_in}

pub mark-none : (c : ℕ) → c < 1048576 → mark_in c ≡ false
unfolding mark_in
mark-none c l = ne_eqb (c / 1048576 % 2) 1 (λ e. omega arith)

pub mark-some : (c : ℕ) → c < 1048576 → mark_in (c + 1048576) ≡ true
unfolding mark_in
mark-some c l = eq-eqb ((c + 1048576) / 1048576 % 2) 1 (omega arith)

pub cell-some : (c : ℕ) → c < 1048576 → cell_in (c + 1048576) ≡ c
unfolding cell_in
cell-some c l = omega arith

pub cell_below : (w : ℕ) → cell_in w < 1048576
unfolding cell_in
cell_below w = omega arith

-- ---- ends

pub mark-end : mark_in 4194304 ≡ false
unfolding mark_in
mark-end = refl

pub mark-top : mark_in 8388608 ≡ false
unfolding mark_in
mark-top = refl

-- ---- the first peak of a pass

pub first_plain : (w : ℕ) → mark_in w ≡ false → first_in w ≡ 4194304
unfolding first_in
first_plain w e = simp e

pub first-marked : (w : ℕ) → mark_in w ≡ true → first_in w ≡ cell_in w
unfolding first_in
first-marked w e = simp e

pub first_some : (c : ℕ) → c < 1048576 → first_in (c + 1048576) ≡ c
unfolding first_in
first_some c l = simp (mark-some c l) (cell-some c l)

pub first-mark : (w : ℕ) → mark_in (first_in w) ≡ false
unfolding first_in
first-mark w = go (mark_in w)
  where
    go : (b : Bool) → mark_in (cond b (cell_in w) 4194304) ≡ false
    go true = mark-none (cell_in w) (cell_below w)
    go false = mark-end

pub first_below : (w : ℕ) → first_in w < 8388608
unfolding first_in
first_below w = go (mark_in w)
  where
    go : (b : Bool) → cond b (cell_in w) 4194304 < 8388608
    go true = let l = cell_below w in omega arith
    go false = omega arith
