-- The grids of the table follow from the definitions: the survey, run on each of them, gives what the table says.
--     agrees x             the survey of an example gives what the table says, by a test
--     follow               and then each example is as the definitions say
--     marked-follow        the whole table, by one computation
--     pass-can-move        by another that a closed peak's pass cell can move to an earlier one
--     parent-can-change    and by one more that its parent may change
-- Assumes nothing.
use mathlib.Core.Path.{◌≡◌, refl, subst}
use mathlib.Core.Bool.{Bool, true, false, ◌&&◌}
use mathlib.Core.List.{List, [], ◌∷◌}
use Prim.Native.Nat.{ℕ, suc, ◌*◌}
use native.Mathlib.Omega.{arith}
use lib.Dec.{eqb}
use lib.IntN.{ℤ}
use lib.ListN.{length}
use borrow.Author.Tests.{eqb-true}
use Rattle.relief.specs.Heights.{level_of, height_of, levels}
use Rattle.relief.specs.Peaks.{Key, missing, key, Entry, ListOf}
use Rattle.relief.specs.Runs.{Batch, Rest}
use Rattle.relief.specs.Plane.{Shape, plane_of, touch_of, stage_of}
use Rattle.relief.specs.Outline.{decimal_of, peak_line, pass_line, each, peak_text, Outline}
use Rattle.relief.proofs.Tests.{true-not-false, and-true}
use Rattle.relief.proofs.Flats.{better?}
use Rattle.relief.proofs.Survey.{peak?, joined?, key_level, entry_at, listed?, survey, peak-decides, survey-list}
use Rattle.relief.proofs.BatchSurvey.{closed?, closed-decides, survey_rest, survey_batch, survey-rest, survey-batch}
use Rattle.relief.proofs.OutlineSurvey.{parent?, survey_tops, survey_children, survey_outline, parent-decides}
use Rattle.relief.proofs.OutlineSurvey.{survey-outline}
use Rattle.relief.proofs.Shapes.{touch?, shape-terrain, stage-staged}
use Rattle.theorems.specs.Claims.{moving, PassCanMove, changing, ParentCanChange}
use Rattle.theorems.specs.Grids.{Example, grid, run, outline, HandedOut, Follow, marked}

-- ---- tests of equality

abbrev same_key : Key → Key → Bool
same_key missing missing = true
same_key missing (key k c) = false
same_key (key k c) missing = false
same_key (key k c) (key k' c') = eqb k k' && eqb c c'

abbrev same : List Entry → List Entry → Bool
same [] [] = true
same [] (y ∷ m) = false
same (x ∷ l) [] = false
same (x ∷ l) (y ∷ m) =
    (eqb x.cell y.cell && (eqb x.level y.level && same_key x.key y.key)) && same l m

same_key-equal : (k k' : Key) → same_key k k' ≡ true → k ≡ k'
same_key-equal missing missing e = refl
same_key-equal missing (key k c) e = true-not-false e refl
same_key-equal (key k c) missing e = true-not-false e refl
same_key-equal (key k c) (key k' c') e =
    let (h, i) = and-true (eqb k k') (eqb c c') e in
    let p = eqb-true k k' h in
    let q = eqb-true c c' i in
    cc

same-equal : (l m : List Entry) → same l m ≡ true → l ≡ m
same-equal [] [] e = refl
same-equal [] (y ∷ m) e = true-not-false e refl
same-equal (x ∷ l) [] e = true-not-false e refl
same-equal (x ∷ l) (y ∷ m) e =
    let (h, i) = and-true _ (same l m) e in
    let (a, b) = and-true (eqb x.cell y.cell) _ h in
    let (c, d) = and-true (eqb x.level y.level) (same_key x.key y.key) b in
    let p = eqb-true x.cell y.cell a in
    let q = eqb-true x.level y.level c in
    let r = same_key-equal x.key y.key d in
    let s : x ≡ y = λ i. record { cell = p i; level = q i; key = r i } in
    let t : l ≡ m = same-equal l m i in
    cc

abbrev same_text : List ℕ → List ℕ → Bool
same_text [] [] = true
same_text [] (y ∷ m) = false
same_text (x ∷ l) [] = false
same_text (x ∷ l) (y ∷ m) = eqb x y && same_text l m

same_text-equal : (l m : List ℕ) → same_text l m ≡ true → l ≡ m
same_text-equal [] [] e = refl
same_text-equal [] (y ∷ m) e = true-not-false e refl
same_text-equal (x ∷ l) [] e = true-not-false e refl
same_text-equal (x ∷ l) (y ∷ m) e =
    let (h, i) = and-true (eqb x y) (same_text l m) e in
    let p = eqb-true x y h in
    let q = same_text-equal l m i in
    cc

-- ---- the test of an example

abbrev agrees_from : Shape → ℕ → List ℤ → ℕ → List (List Entry) → List Entry → Bool
agrees_from shape T heights j [] rest =
    eqb (j * shape.rows) (length heights) && same (survey_rest (touch? shape) (stage_of shape j heights) T) rest
agrees_from shape T heights j (batch ∷ batches) rest =
    same (survey_batch (touch? shape) (stage_of shape j heights) (stage_of shape (suc j) heights) T) batch
    && agrees_from shape T heights (suc j) batches rest

abbrev agrees : Example → Bool
agrees (grid rows T heights list) = same (survey (touch? (plane_of rows)) (levels heights) (length heights) T) list
agrees (run rows T heights batches rest) = agrees_from (plane_of rows) T heights 0 batches rest
agrees (outline rows T depths heights text) =
    same_text (survey_outline (touch? (plane_of rows)) (levels heights) (length heights) T depths) text

abbrev all : List Example → Bool
all [] = true
all (x ∷ xs) = agrees x && all xs

follows-from : (shape : Shape) (T : ℕ) (heights : List ℤ) (j : ℕ) (batches : List (List Entry)) (rest : List Entry)
    → agrees_from shape T heights j batches rest ≡ true → HandedOut shape T heights j batches rest
follows-from shape T heights j [] rest e =
    let (h, i) = and-true (eqb (j * shape.rows) (length heights)) _ e in (
      eqb-true (j * shape.rows) (length heights) h,
      subst (Rest (touch_of shape) (stage_of shape j heights) T) (same-equal _ rest i)
          (survey-rest (stage-staged shape j heights) T),
    )
follows-from shape T heights j (batch ∷ batches) rest e =
    let (h, i) = and-true _ (agrees_from shape T heights (suc j) batches rest) e in (
      subst (Batch (touch_of shape) (stage_of shape j heights) (stage_of shape (suc j) heights) T)
          (same-equal _ batch h)
          (survey-batch (stage-staged shape j heights) (stage-staged shape (suc j) heights) T),
      follows-from shape T heights (suc j) batches rest i,
    )

follow : (xs : List Example) → all xs ≡ true → Follow xs
follow [] e = tt
follow (grid rows T heights list ∷ xs) e =
    let (h, i) = and-true (agrees (grid rows T heights list)) (all xs) e in (
      subst (ListOf (touch_of (plane_of rows)) (levels heights) T) (same-equal _ list h)
          (survey-list (shape-terrain (plane_of rows) heights) T),
      follow xs i,
    )
follow (run rows T heights batches rest ∷ xs) e =
    let (h, i) = and-true (agrees_from (plane_of rows) T heights 0 batches rest) (all xs) e in
    (follows-from (plane_of rows) T heights 0 batches rest h, follow xs i)
follow (outline rows T depths heights text ∷ xs) e =
    let (h, i) = and-true (agrees (outline rows T depths heights text)) (all xs) e in (
      subst (Outline (touch_of (plane_of rows)) (levels heights) T depths) (same_text-equal _ text h)
          (survey-outline (shape-terrain (plane_of rows) heights) T depths),
      follow xs i,
    )

pub marked-follow : Follow marked
unfolding marked levels level_of peak? better? joined? key_level entry_at closed? listed? survey survey_rest
    survey_batch
    height_of decimal_of peak_line pass_line each peak_text parent? survey_tops survey_children survey_outline
marked-follow = follow marked agree
  where
    agree : all marked ≡ true
    agree = refl

pub pass-can-move : PassCanMove
unfolding levels level_of peak? better? joined? key_level entry_at closed?
pass-can-move = record {
  closed = (closed-decides (stage-staged (plane_of 4) 2 moving) 1).holds refl;
  after = (closed-decides (stage-staged (plane_of 4) 3 moving) 1).holds refl;
  alike = record { cell = refl; level = refl; floor = refl };
  earlier = omega arith;
}

pub parent-can-change : ParentCanChange
unfolding levels level_of peak? better? joined? key_level entry_at closed? parent?
parent-can-change =
    let t = stage-staged (plane_of 1) 3 changing in
    let t' = stage-staged (plane_of 1) 4 changing in
    record {
      closed = (closed-decides t 0).holds refl;
      still = (closed-decides t' 0).holds refl;
      parent = (parent-decides t 0 2 ((peak-decides t 0).holds refl)).holds refl;
      after = (parent-decides t' 0 3 ((peak-decides t' 0).holds refl)).holds refl;
      other = λ e. omega arith;
    }
