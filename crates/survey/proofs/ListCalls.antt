-- A call that lists a grid, whatever its tests and however its heights are lent: its promise without the row.
--     grid-surveying   the levels of a grid that passed its tests, once loaded, may be surveyed
--     list-refused     a test refuses; the list is there all the same
--     list-made        none does: what a survey of the loaded heights leaves is the list
-- Assumes nothing.
use Rattle.std.specs.Prelude.{Result, Ok, Err}
use mathlib.Core.Path.{◌≡◌, sym, ◌∙◌, subst}
use mathlib.Core.Bool.{Bool}
use mathlib.Core.List.{List}
use Prim.Native.Nat.{ℕ}
use lib.IntN.{ℤ}
use lib.ListN.{length}
use Rattle.relief.specs.Heights.{levels}
use Rattle.relief.specs.Peaks.{Listed, ListOf}
use Rattle.relief.specs.Plane.{Shape, touch_of}
use Rattle.relief.specs.Inner.{cut}
use Rattle.relief.proofs.Survey.{survey, survey-list}
use Rattle.relief.proofs.Shapes.{touch?, shape-terrain}
use Rattle.record.specs.declared.Refusal.{Refusal}
use Rattle.record.specs.Refusals.{first_of}
use Rattle.area.specs.Area.{level_in}
use Rattle.heights.specs.Inner.{GoodGrid, Loaded}
use Rattle.heights.proofs.Answers.{grid-loaded}
use Rattle.heights.proofs.Loads.{loaded-levels}
use Rattle.table.specs.Inner.{room_answer, HandsFlat}
use Rattle.table.proofs.Handed.{worked-late, flat-refused, flat-made}
use Rattle.survey.specs.Answers.{entries_in, Surveying, Answered}
use Rattle.survey.proofs.Records.{places-record, places-length}

pub grid-surveying : {rows cells work : ℕ} → GoodGrid rows cells work → {s t : List ℕ} {heights : List ℤ} {r : ℕ}
    → length s ≡ work → Loaded s t heights cells → r ≡ rows → Surveying t cells r
grid-surveying g e h q =
    let (area, some, few) = grid-loaded g e h q in record { area = area; rows_some = some; rows_few = few }

module _ (tests : List (Bool × Refusal)) (shape : Shape) (T room : ℕ) (hs : List ℤ) {n : ℕ} {work left : List ℕ} where
  pub list-refused : {r : Refusal} → first_of tests ≡ Err r → left ≡ work
      → HandsFlat tests n (ListOf (touch_of shape) (levels hs) T) work room left (Err r)
  list-refused bad same =
      flat-refused tests (survey (touch? shape) (levels hs) (length hs) T) (survey-list (shape-terrain shape hs) T) bad
      same

  pub list-made : first_of tests ≡ Ok tt → length hs ≡ n → {t : List ℕ} {k : ℕ} {a : Result ℕ Refusal}
      → Loaded work t hs n
      → Answered t left n (Listed (touch_of shape) (cut n (level_in t)) T) k → a ≡ room_answer room k
      → HandsFlat tests n (ListOf (touch_of shape) (levels hs) T) work room left a
  list-made good len {t} {k} loaded made =
      flat-made tests (entries_in left n k)
      (subst (λ (L : ℕ → ℕ). ListOf (touch_of shape) L T (entries_in left n k)) (loaded-levels len loaded) made.order)
      good (worked-late good (made.len ∙ loaded.len) (λ i l. made.beyond i l ∙ loaded.beyond i l))
      (sym (places-length _ k)) made.counted (places-record left n k)
