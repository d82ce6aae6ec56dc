-- The promise of the account at each kind of return.
--     account-refused                the promise of a call that a test before the work refuses
--     asked                          what the sweep tells of the cell
--     account-no-peak, account-short of a call refused by 17, and by 18
--     account-made                   of one that does its work
-- Assumes nothing.
use Rattle.std.specs.Prelude.{Ok, Err}
use mathlib.Core.Path.{◌≡◌, refl, sym, ◌∙◌, ap}
use mathlib.Core.Bool.{Bool, true, false, cond, ◌||◌}
use mathlib.Core.List.{List, [], ◌∷◌}
use mathlib.Core.Logic.{◌↔◌}
use Prim.Native.Nat.{ℕ, ◌*◌, ◌≤◌, ◌<◌}
use native.Mathlib.Omega.{arith}
use lib.Dec.{ltb}
use lib.IntN.{ℤ}
use lib.ListN.{length, get_or}
use Rattle.relief.specs.Heights.{levels}
use Rattle.relief.specs.Peaks.{Peak, KeyHeight, NoKey}
use Rattle.relief.specs.Plane.{plane_of, touch_of}
use Rattle.relief.specs.Inner.{Decides, cut}
use borrow.Author.Tests.{ltb-false}
use Rattle.relief.proofs.Tests.{passes, declines, or-false}
use Rattle.relief.proofs.Levels.{cut-equal}
use Rattle.relief.proofs.Shapes.{touch?, shape-terrain}
use Rattle.relief.proofs.Survey.{peak?, peak-decides}
use Rattle.record.specs.declared.Refusal.{Refusal}
use Rattle.record.specs.declared.Refusal.TheVariants.{NoPeak, AccountRoom}
use Rattle.record.specs.Refusals.{granted, first_of}
use Rattle.record.proofs.Tests.{told-by, bad-not-good}
use Rattle.area.specs.Area.{level_in}
use Rattle.heights.specs.Grid.{grid_tests}
use Rattle.heights.specs.Inner.{GoodGrid, Loaded}
use Rattle.heights.proofs.Loads.{loaded-levels}
use Rattle.table.proofs.Handed.{worked-early, worked-late}
use Rattle.survey.specs.Answers.{KeyTold}
use Rattle.account.specs.declared.Given.{Given}
use Rattle.account.specs.Promises.{account_tests, Accounts}
use Rattle.account.specs.Inner.{Drawable, Drew}
use Rattle.account.proofs.Tests.{check-early, check-no-peak, check-good, account-early, account-end}

-- ---- a call refused before the work

module _ (rows : ℕ) (heights : List ℤ) (cell : ℕ) (work : List ℕ) where
  -- Whether the cell is a peak's is told for every grid, by computing it.
  pub peak-here : Bool
  peak-here = peak? (touch? (plane_of rows)) (levels heights) (length heights) cell

  pub peak-decided : Decides (Peak (touch_of (plane_of rows)) (levels heights) cell) peak-here
  unfolding peak-here
  peak-decided = peak-decides (shape-terrain (plane_of rows) heights) cell

  pub peak-told : (peak-here ≡ true) ↔ Peak (touch_of (plane_of rows)) (levels heights) cell
  peak-told = (peak-decided.holds, passes peak-decided)

  pub account-refused : (path island : List ℕ) {left : List ℕ} {r : Refusal}
      → first_of (grid_tests rows (length heights) (length work)) ≡ Err r → left ≡ work
      → Accounts rows heights cell work left path path island island (Err r)
  account-refused path island {left} {r} bad same =
      let refused =
      account-early rows (length heights) (length work) peak-here (length path) (length island)
      (check-early rows (length heights) (length work) peak-here bad) in
      record {
        peak = peak-here;
        told = peak-told;
        key = 0;
        way = [];
        isle = [];
        right = λ good. bad-not-good refused good;
        answered = sym (told-by (granted (0 ∷ 0 ∷ 0 ∷ [])) refused);
        fits = tt;
        path_after = refl;
        island_after = refl;
        worked = worked-early same;
      }

-- ---- a call that passed the tests before the work

-- the levels are loaded and swept: the cell is a peak's just if k is below its level, and then k is the key height
pub record Asked (rows : ℕ) (heights : List ℤ) (cell : ℕ) (work left : List ℕ) (k : ℕ) : Type 0 where
  pub levels_in : cut (length heights) (level_in left) ≡ levels heights
  pub slope : levels heights cell ≤ k → Peak (touch_of (plane_of rows)) (levels heights) cell → ⊥
  pub peak : k < levels heights cell → Peak (touch_of (plane_of rows)) (levels heights) cell
  pub none : k < levels heights cell → k ≡ 0 → NoKey (touch_of (plane_of rows)) (levels heights) cell
  pub some : k < levels heights cell → 0 < k → KeyHeight (touch_of (plane_of rows)) (levels heights) cell k
  pub beyond : (i : ℕ) → 16 * length heights ≤ i → get_or left i 0 ≡ get_or work i 0
  pub len : length left ≡ length work

pub asked : {rows : ℕ} {heights : List ℤ} {cell p n r k : ℕ} {work a left : List ℕ} → n ≡ length heights → r ≡ rows
    → p ≡ cell → Loaded work a heights n → KeyTold (touch_of (plane_of r)) a left n p k
    → Asked rows heights cell work left k
asked {rows} {heights} {cell} {p} {n} {r} {k} {work} {a} {left} en er ep loaded told =
    let L : cut n (level_in a) ≡ levels heights = loaded-levels (sym en) loaded in
    record {
      levels_in = rw (sym en) (cut-equal n (level_in left) (level_in a) told.levels_in ∙ L);
      slope = rw (sym er, sym ep, sym L) told.slope;
      peak = rw (sym er, sym ep, sym L) told.peak;
      none = rw (sym er, sym ep, sym L) told.none;
      some = rw (sym er, sym ep, sym L) told.some;
      beyond = λ i l. told.beyond i (omega arith) ∙ loaded.beyond i (omega arith);
      len = told.len ∙ loaded.len;
    }

-- the level that is compared
level-is : {rows : ℕ} {heights : List ℤ} {cell : ℕ} {work left : List ℕ} {k : ℕ}
    → Asked rows heights cell work left k → {n p l : ℕ} → n ≡ length heights → p ≡ cell
    → l ≡ cut n (level_in left) p → l ≡ levels heights cell
level-is {heights = heights} {left = left} h {n} {p} en ep e =
    e ∙ ap (λ (m : ℕ). cut m (level_in left) p) en ∙ ap (λ (M : ℕ → ℕ). M p) h.levels_in ∙ ap (levels heights) ep

-- the test whether it is at most k
module _ {rows : ℕ} {heights : List ℤ} {cell : ℕ} {work left : List ℕ} {k : ℕ} (h : Asked rows heights cell work left k)
    {n p l : ℕ} (en : n ≡ length heights) (ep : p ≡ cell) (e : l ≡ cut n (level_in left) p) where
  pub level-low : l ≤ k → levels heights cell ≤ k
  level-low i = let m = level-is h en ep e in omega arith

  pub level-high : k < l → k < levels heights cell
  level-high i = let m = level-is h en ep e in omega arith

module _ {rows : ℕ} {heights : List ℤ} {cell : ℕ} {work left : List ℕ} {k : ℕ} (path island : List ℕ)
    (g : GoodGrid rows (length heights) (length work)) (h : Asked rows heights cell work left k) where
  abbrev here : Bool
  here = peak-here rows heights cell work

  told : (here ≡ true) ↔ Peak (touch_of (plane_of rows)) (levels heights) cell
  told = peak-told rows heights cell work

  -- 17 or 18, behind the work
  account-late : {r : Refusal}
      → first_of (account_tests rows (length heights) (length work) here (length path) (length island)) ≡ Err r
      → Accounts rows heights cell work left path path island island (Err r)
  account-late bad = record {
    peak = here;
    told = told;
    key = 0;
    way = [];
    isle = [];
    right = λ good. bad-not-good bad good;
    answered = sym (told-by (granted (0 ∷ 0 ∷ 0 ∷ [])) bad);
    fits = tt;
    path_after = refl;
    island_after = refl;
    worked = worked-late g.good h.len h.beyond;
  }

  pub account-no-peak : levels heights cell ≤ k
      → Accounts rows heights cell work left path path island island (Err NoPeak)
  account-no-peak l =
      account-late (account-early rows (length heights) (length work) here (length path) (length island)
      (check-no-peak rows (length heights) (length work) here g.good
      (declines (peak-decided rows heights cell work) (h.slope l))))

  -- `short` is whether a row has too little room
  module _ (above : k < levels heights cell) {short : Bool}
      (e : short ≡ (ltb (length path) (length heights) || ltb (length island) (length heights))) where
    decided : first_of (account_tests rows (length heights) (length work) here (length path) (length island))
        ≡ cond short (Err AccountRoom) (Ok tt)
    decided =
        account-end rows (length heights) (length work) here (length path) (length island)
        (check-good rows (length heights) (length work) here g.good (told.1 (h.peak above))) e

    pub account-short : short ≡ true
        → Accounts rows heights cell work left path path island island (Err AccountRoom)
    account-short t = account-late (decided ∙ ap (λ (b : Bool). cond b (Err AccountRoom) (Ok tt)) t)

    -- what drawing the account asks
    pub account-drawable : short ≡ false → {n r p : ℕ} → n ≡ length heights → r ≡ rows → p ≡ cell
        → Drawable left n r p k path island
    account-drawable f {n} {r} {p} en er ep =
        let (a, b) = or-false (ltb (length path) (length heights)) (ltb (length island) (length heights)) (sym e ∙ f) in
        let pa = ltb-false (length path) (length heights) a in
        let pb = ltb-false (length island) (length heights) b in
        let L = h.levels_in in
        rw (en, er, ep) (record {
          area = record { few = g.fits; room = let x = g.space in let y = h.len in omega arith };
          rows_some = g.some;
          rows_few = g.few;
          above = rw L above;
          peak = rw L (h.peak above);
          none = rw L (h.none above);
          some = rw L (h.some above);
          path_room = pa;
          island_room = pb;
        })

    pub account-made : short ≡ false → {n r p : ℕ} → n ≡ length heights → r ≡ rows → p ≡ cell
        → {end path' island' : List ℕ} {a : Given} → Drew r left end n p path path' island island' a
        → Accounts rows heights cell work end path path' island island' (Ok a)
    account-made f {n} {r} {p} en er ep {end} {path'} {island'} {a} d =
        let passed = decided ∙ ap (λ (b : Bool). cond b (Err AccountRoom) (Ok tt)) f in
        record {
          peak = here;
          told = told;
          key = d.key;
          way = d.way;
          isle = d.isle;
          right = λ good. rw (sym er, sym ep, sym h.levels_in, sym en) d.right;
          answered = d.answered ∙ sym (told-by (granted (d.key ∷ length d.way ∷ length d.isle ∷ [])) passed);
          fits = d.fits;
          path_after = d.path_after;
          island_after = d.island_after;
          worked = worked-late g.good (d.len ∙ h.len) (λ i l. d.beyond i (omega arith) ∙ h.beyond i l);
        }
