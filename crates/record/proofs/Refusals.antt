-- A refusal can be read back from what it tells: its number is its place among the cases. So two that tell the same are
-- one, and no pair of cases has to be looked at.
--     heard t               the refusal that tells t
--     refusals-differ       two refusals that tell the same are one
--     handed-differ         and so are two answers of calls that hand out records
--     rows_right, rows-known    what `bad_rows` says of a number of rows, and what it tells
-- Assumes nothing.
use mathlib.Core.Bool.{false}
use mathlib.Core.List.{List, [], ◌∷◌}
use mathlib.Core.Path.{◌≡◌, refl, sym, ap, ◌∙◌}
use Prim.Native.Nat.{ℕ, ◌≤◌}
use native.Mathlib.Omega.{arith}
use lib.Dec.{eqb, ltb}
use lib.ListN.{get_or}
use borrow.Author.Tests.{ne_eqb, le-ltb, eqb-false, ltb-false}
use Rattle.relief.proofs.Tests.{or-false}
use Rattle.record.specs.declared.Refusal.{Refusal}
use Rattle.record.specs.declared.Refusal.TheVariants.{Rows, Length, Cells, Work, Table, Ended}
use Rattle.record.specs.declared.Refusal.TheVariants.{ColumnLength, GridFull, TakenCells, FileLength}
use Rattle.record.specs.declared.Refusal.TheVariants.{FileCounts, Unsound, Room, Levels, TextRoom, NotEnded}
use Rattle.record.specs.declared.Refusal.TheVariants.{NoPeak, AccountRoom}
use Rattle.std.specs.Prelude.{Ok, Err}
use Rattle.record.specs.Refusals.{Told, granted, told_of, bad_rows}
use Rattle.record.specs.Claims.{RefusalsDiffer, HandedDiffer}

-- The cases with the value v, at their numbers. No refusal has number 0: any case may stand there.
cases : ℕ → List Refusal
cases v =
    Rows ∷ Rows ∷ Length ∷ Cells ∷ Work ∷ Table v ∷ Ended ∷ ColumnLength ∷ GridFull ∷ TakenCells ∷ FileLength
    ∷ FileCounts ∷ Unsound v ∷ Room v ∷ Levels ∷ TextRoom ∷ NotEnded ∷ NoPeak ∷ AccountRoom ∷ []

heard : Told → Refusal
heard t = get_or (cases (get_or t.values 0 0)) t.number Rows

heard-told : (r : Refusal) → heard (told_of r) ≡ r
unfolding heard cases
heard-told Rows = refl
heard-told Length = refl
heard-told Cells = refl
heard-told Work = refl
heard-told (Table needed) = refl
heard-told Ended = refl
heard-told ColumnLength = refl
heard-told GridFull = refl
heard-told TakenCells = refl
heard-told FileLength = refl
heard-told FileCounts = refl
heard-told (Unsound index) = refl
heard-told (Room needed) = refl
heard-told Levels = refl
heard-told TextRoom = refl
heard-told NotEnded = refl
heard-told NoPeak = refl
heard-told AccountRoom = refl

pub refusals-differ : RefusalsDiffer
refusals-differ a b e = sym (heard-told a) ∙ ap heard e ∙ heard-told b

-- No refusal has the number of an answer that is none.
pub told-refused : {A : Type 0} (r : Refusal) (values : List ℕ) → told_of r ≡ granted values → A
told-refused r values e = let h = ap (λ (t : Told). t.number) e in let l = told-some r in absurd (omega arith)
  where
    told-some : (r : Refusal) → 1 ≤ (told_of r).number
    told-some Rows = omega arith
    told-some Length = omega arith
    told-some Cells = omega arith
    told-some Work = omega arith
    told-some (Table needed) = omega arith
    told-some Ended = omega arith
    told-some ColumnLength = omega arith
    told-some GridFull = omega arith
    told-some TakenCells = omega arith
    told-some FileLength = omega arith
    told-some FileCounts = omega arith
    told-some (Unsound index) = omega arith
    told-some (Room needed) = omega arith
    told-some Levels = omega arith
    told-some TextRoom = omega arith
    told-some NotEnded = omega arith
    told-some NoPeak = omega arith
    told-some AccountRoom = omega arith

pub handed-differ : HandedDiffer
handed-differ (Ok n) (Ok m) e = ap (λ (t : Told). Ok (get_or t.values 0 0)) e
handed-differ (Ok n) (Err r) e = told-refused r (n ∷ []) (sym e)
handed-differ (Err r) (Ok n) e = told-refused r (n ∷ []) e
handed-differ (Err r) (Err q) e = ap Err (refusals-differ r q e)

-- ---- refusal 1

pub rows_right : {rows : ℕ} → (rows ≡ 0 → ⊥) → rows ≤ 1024 → bad_rows rows ≡ false
rows_right {rows} d l = simp (ne_eqb rows 0 d, le-ltb 1024 rows l)

pub rows-known : (rows : ℕ) → bad_rows rows ≡ false → (rows ≡ 0 → ⊥) × (rows ≤ 1024)
rows-known rows e =
    let (a, b) = or-false (eqb rows 0) (ltb 1024 rows) e in (eqb-false rows 0 a, ltb-false 1024 rows b)
