-- The promise of the check at each kind of return.
--     grid-auditing      the levels of a grid that passed its tests, once loaded, may be checked
--     check-refused      the promise of a call that a test before the work refuses
--     checked            what the check on loaded levels tells of the heights
--     check-found        the promise of one that passed them: 17, yes or no, as the check finds
-- Assumes nothing.
use Rattle.std.specs.Prelude.{Err, Option, None, Some, ok_or}
use mathlib.Core.Path.{◌≡◌, refl, sym, ◌∙◌}
use mathlib.Core.Bool.{Bool, true, false, cond}
use mathlib.Core.List.{List, [], ◌∷◌}
use Prim.Native.Nat.{ℕ, ◌*◌, ◌≤◌}
use native.Mathlib.Omega.{arith}
use lib.IntN.{ℤ}
use lib.ListN.{length, get_or}
use Rattle.relief.specs.Heights.{level_of, levels}
use Rattle.relief.specs.Plane.{plane_of, touch_of}
use Rattle.relief.proofs.Tests.{true-not-false, passes}
use Rattle.record.specs.declared.Refusal.{Refusal}
use Rattle.record.specs.declared.Refusal.TheVariants.{NoPeak}
use Rattle.record.specs.Refusals.{granted, first_of}
use Rattle.record.proofs.Tests.{told-by, bad-not-good}
use Rattle.words.proofs.Laws.{Bytes}
use Rattle.heights.specs.Grid.{grid_tests}
use Rattle.heights.specs.Inner.{GoodGrid, Loaded}
use Rattle.heights.proofs.Answers.{grid-loaded}
use Rattle.heights.proofs.Loads.{loaded-levels}
use Rattle.table.proofs.Handed.{worked-early, worked-late}
use Rattle.audit.specs.Audit.{Auditing, Finds, Judges}
use Rattle.account.specs.Promises.{Checks}
use Rattle.account.proofs.Drawn.{bytes-stay}
use Rattle.account.proofs.Tests.{check-early, check-no-peak, check-good}
use Rattle.account.proofs.Answers.{peak-here, peak-told}

pub grid-auditing : {rows cells work : ℕ} → GoodGrid rows cells work → {s t : List ℕ} {heights : List ℤ} {r : ℕ}
    → length s ≡ work → Loaded s t heights cells → r ≡ rows → Auditing t cells r
grid-auditing g e h q =
    let (area, some, few) = grid-loaded g e h q in record { area = area; rows_some = some; rows_few = few }

pub check-refused : (rows : ℕ) (heights : List ℤ) (cell : ℕ) (key : ℤ) (path island work : List ℕ) {left : List ℕ}
    {r : Refusal} → first_of (grid_tests rows (length heights) (length work)) ≡ Err r → left ≡ work
    → Checks rows heights cell key path island work left (Err r)
check-refused rows heights cell key path island work bad same =
    let here = peak-here rows heights cell work in
    let early = check-early rows (length heights) (length work) here bad in
    record {
      peak = here;
      told = peak-told rows heights cell work;
      good = false;
      judged = λ good. bad-not-good early good;
      answered = sym (told-by (granted (0 ∷ [])) early);
      worked = worked-early same;
    }

-- ---- what the check finds

-- the levels are loaded and the check is made, with this finding
pub record Checked (rows : ℕ) (heights : List ℤ) (cell : ℕ) (key : ℤ) (path island work left : List ℕ) (f : Option Bool)
    : Type 0 where
  pub finds : Finds (touch_of (plane_of rows)) (levels heights) cell (level_of key) path island f
  pub beyond : (i : ℕ) → 16 * length heights ≤ i → get_or left i 0 ≡ get_or work i 0
  pub len : length left ≡ length work

pub checked : {rows : ℕ} {heights : List ℤ} {cell : ℕ} {key : ℤ} {path island work a left : List ℕ} {f : Option Bool}
    {n r c k : ℕ} → n ≡ length heights → r ≡ rows → c ≡ cell → k ≡ level_of key → Loaded work a heights n
    → Judges (touch_of (plane_of r)) a left n c k path island f → Bytes a → Bytes left
    → Checked rows heights cell key path island work left f
checked {rows} {heights} {cell} {key} {path} {island} {work} {a} {left} {f} {n} {r} {c} {k} en er ec ek loaded j ba bl =
    record {
      finds = rw (sym er, sym ec, sym ek, sym (loaded-levels (sym en) loaded)) j.finds;
      beyond = λ i l. bytes-stay a left n ba bl j.behind.numbers i (omega arith) ∙ loaded.beyond i (omega arith);
      len = j.behind.len ∙ loaded.len;
    }

module _ {rows : ℕ} {heights : List ℤ} {cell : ℕ} {key : ℤ} {path island work left : List ℕ}
    (g : GoodGrid rows (length heights) (length work)) where
  pub check-found : (f : Option Bool) → Checked rows heights cell key path island work left f
      → Checks rows heights cell key path island work left (ok_or f NoPeak)
  check-found None h =
      let bad = check-no-peak rows (length heights) (length work) false g.good refl in
      record {
        peak = false;
        told = (λ i. true-not-false i refl, λ p. absurd (h.finds p));
        good = false;
        judged = λ good. bad-not-good bad good;
        answered = sym (told-by (granted (0 ∷ [])) bad);
        worked = worked-late g.good h.len h.beyond;
      }
  check-found (Some b) h =
      let (p, d) = h.finds in
      record {
        peak = true;
        told = (λ i. p, λ i. refl);
        good = b;
        judged = λ passed. (d.holds, passes d);
        answered = sym (told-by (granted (cond b 1 0 ∷ []))
            (check-good rows (length heights) (length work) true g.good refl));
        worked = worked-late g.good h.len h.beyond;
      }
