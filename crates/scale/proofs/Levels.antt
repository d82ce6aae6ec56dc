-- Laws of levels and of the mark: the one file of the crate that unfolds `level_of` and `is_mark`. Those that are
-- claims are stated in specs/Claims.antt.
--     level-raise                   z + 2^31 is the level of z
--     level-below                   levels are below 2^32
--     level-onto                    a number below 2^32 is the level of the height that is less by 2^31
--     level-injective               heights of one level are equal
--     level-blank-iff, mark-bits    level 0 is the blank mark's; the mark is found by its bits
--     level-le-iff, level-lt-iff    levels are in the order of the heights
--     level-difference              a difference of levels is that of the heights
--     prominent-levels              a prominence is a difference of levels
-- Order and difference go by the signs of the heights, in each case by linear arithmetic. A level determines its height
-- because 2^31 can be taken off again, and `<` follows from `≤` the other way round. Assumes nothing.
use mathlib.Core.Bool.{Bool, true, false}
use mathlib.Core.Path.{◌≡◌, refl, sym, ap, ◌∙◌}
use Prim.Native.Nat.{ℕ, zero, suc, ◌+◌, ◌-◌, ◌≤◌, ◌<◌}
use native.Mathlib.Decide.{dec_lt, ℕ_discrete}
use native.Mathlib.Omega.{arith}
use borrow.Author.Tests.{le-ltb, lt-ltb, eq-eqb, ne_eqb}
use lib.Dec.{eqb, leb→le, le→leb}
use lib.IntN.{ℤ, pos, negsuc, sub_ℕ, ◌+ℤ◌, ◌-ℤ◌, +ℤ-neg_ℤ_cancel}
use lib.Signed.{◌≤ℤ◌, ◌<ℤ◌, lt_z, lt_z_yes, lt_z_no, clash_ℤ}
use mir.Syntax.{w32}
use mir.Val.{SFits, of_z}
use Rattle.relief.specs.Heights.{level_of}
use Rattle.scale.specs.Prominence.{is_mark}
use Rattle.scale.specs.Claims.{LevelBelow, LevelBlank, LevelInjective, LevelLe, LevelLt, LevelDifference}
use Rattle.scale.specs.Claims.{ProminentLevels}

-- ---- the difference of two naturals, and tests that agree

sub-of-le : (a b : ℕ) → b ≤ a → sub_ℕ a b ≡ pos (a - b)
sub-of-le a b h = rw (le-ltb a b h)

sub-of-lt : (a b : ℕ) → a < b → sub_ℕ a b ≡ negsuc (b - suc a)
sub-of-lt a b h = rw (lt-ltb a b h)

eqb_same : (a b c d : ℕ) → (a ≡ b → c ≡ d) → (c ≡ d → a ≡ b) → eqb a b ≡ eqb c d
eqb_same a b c d f g = elim (ℕ_discrete a b) [
  | yes e ↦ eq-eqb a b e ∙ sym (eq-eqb c d (f e))
  | no n ↦ ne_eqb a b n ∙ sym (ne_eqb c d (λ e. n (g e)))
]

-- ---- a level is the height moved up by 2^31

pub level-raise : {z : ℤ} → SFits w32 z → z +ℤ pos 2147483648 ≡ pos (level_of z)
unfolding level_of
level-raise {z = pos n} f = refl
level-raise {z = negsuc n} f =
    let h = f.sfits in
    sub-of-le 2147483648 (suc n) (omega arith) ∙ ap pos (omega arith)

pub level-below : {z : ℤ} → LevelBelow z
unfolding level_of
level-below {z = pos n} f = let h = f.sfits in omega arith
level-below {z = negsuc n} f = omega arith

pub level-onto :
    (l : ℕ) → l < 4294967296 → SFits w32 (pos l -ℤ pos 2147483648) × (level_of (pos l -ℤ pos 2147483648) ≡ l)
unfolding level_of
level-onto l h = elim (dec_lt l 2147483648) [
  | yes k ↦ rw (sub-of-lt l 2147483648 k) (record { sfits = omega arith }, omega arith)
  | no k ↦ rw (sub-of-le l 2147483648 (omega arith)) (record { sfits = omega arith }, omega arith)
]

pub level-injective : {a b : ℤ} → LevelInjective a b
level-injective {a} {b} fa fb e = lowered a fa ∙ ap (λ (n : ℕ). pos n -ℤ pos 2147483648) e ∙ sym (lowered b fb)
  where
    lowered : (z : ℤ) → SFits w32 z → z ≡ pos (level_of z) -ℤ pos 2147483648
    lowered z f = sym (+ℤ-neg_ℤ_cancel z (pos 2147483648)) ∙ ap (λ (y : ℤ). y -ℤ pos 2147483648) (level-raise f)

-- ---- the mark

pub level-blank-iff : {z : ℤ} → LevelBlank z
unfolding level_of
level-blank-iff f = (level-injective f (record { sfits = omega arith }), ap level_of)

pub mark-bits : {z : ℤ} → SFits w32 z → eqb (of_z w32 z) 2147483648 ≡ is_mark z
unfolding level_of is_mark
mark-bits {z = pos n} f =
    let h = f.sfits in
    eqb_same n 2147483648 (n + 2147483648) 0 (λ e. omega arith) (λ e. omega arith)
mark-bits {z = negsuc n} f =
    let h = f.sfits in
    eqb_same (4294967296 - suc n) 2147483648 (2147483647 - n) 0 (λ e. omega arith) (λ e. omega arith)

-- ---- order

pub level-le-iff : {a b : ℤ} → LevelLe a b
unfolding level_of
level-le-iff {a = pos a} {b = pos b} fa fb =
    (λ h. omega (arith, leb→le a b h.le), λ h. record { le = le→leb a b (omega arith) })
level-le-iff {a = pos a} {b = negsuc b} fa fb = (λ h. absurd h.le, λ h. absurd (omega arith))
level-le-iff {a = negsuc a} {b = pos b} fa fb = (λ h. omega arith, λ h. record { le = tt })
level-le-iff {a = negsuc a} {b = negsuc b} fa fb =
    let k = fb.sfits in
    (λ h. omega (arith, leb→le b a h.le), λ h. record { le = le→leb b a (omega arith) })

pub level-lt-iff : {a b : ℤ} → LevelLt a b
level-lt-iff {a} {b} fa fb = (up (dec_lt (level_of a) (level_of b)), down (lt_z a b) refl)
  where
    up : Dec (level_of a < level_of b) → a <ℤ b → level_of a < level_of b
    up (yes l) h = l
    up (no n) h = clash_ℤ h ((level-le-iff fb fa).1 (omega arith))

    down : (t : Bool) → lt_z a b ≡ t → level_of a < level_of b → a <ℤ b
    down true e l = lt_z_yes (rw e tt)
    down false e l = let h = (level-le-iff fb fa).0 (lt_z_no (rw e tt)) in absurd (omega arith)

-- ---- difference

pub level-difference : {a b : ℤ} → LevelDifference a b
unfolding level_of
level-difference {a = pos a} {b = pos zero} fa fb h = ap pos (omega arith)
level-difference {a = pos a} {b = pos (suc b)} fa fb h =
    let k = leb→le (suc b) a h.le in
    ap pos (omega arith) ∙ sym (sub-of-le a (suc b) k)
level-difference {a = pos a} {b = negsuc b} fa fb h = let k = fb.sfits in ap pos (omega arith)
level-difference {a = negsuc a} {b = pos b} fa fb h = absurd h.le
level-difference {a = negsuc a} {b = negsuc b} fa fb h =
    let k = leb→le a b h.le in
    let l = fb.sfits in
    ap pos (omega arith) ∙ sym (sub-of-le (suc b) (suc a) (omega arith))

pub prominent-levels : {height key : ℤ} {r : ℕ} → ProminentLevels height key r
prominent-levels {height} {key} {r} fh fk h = go (lt_z height key) refl
  where
    go : (t : Bool) → lt_z height key ≡ t → r ≡ level_of height - level_of key
    go true e =
        let l : height <ℤ key = lt_z_yes (rw e tt) in
        let z = h.none l in
        let m = (level-lt-iff fh fk).0 l in
        omega arith
    go false e =
        let l : key ≤ℤ height = lt_z_no (rw e tt) in
        let d = level-difference fh fk l in
        let p = h.difference l in
        cc
