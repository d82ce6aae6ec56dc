-- The records that stand in the work area are those of the entries that stand there.
--     peak-record        the record of a cell is that of its entry
--     places-record      the records of so many places are those of their entries
--     places-length      and so many
-- Assumes nothing.
use mathlib.Core.Path.{◌≡◌, refl, sym, ◌∙◌, ap}
use mathlib.Core.Bool.{Bool, true, false}
use mathlib.Core.List.{List, [], ◌∷◌, ◌++◌, map}
use Prim.Native.Nat.{ℕ, zero, suc, ◌+◌}
use native.Mathlib.Numerals.{add-one}
use lib.Dec.{eqb}
use lib.ListN.{length, length-append}
use Rattle.relief.specs.Heights.{height_of}
use Rattle.relief.specs.Peaks.{missing, key, Entry}
use Rattle.area.specs.Area.{level_in, order_in, parent_in, pass_of}
use Rattle.record.specs.declared.Peak.{Peak}
use Rattle.record.specs.Records.{with_key, without_key, record_of}
use Rattle.table.specs.Inner.{peak_in, records_in}
use Rattle.survey.specs.Answers.{pick_key, entry_in, up_to, entries_in}

pub peak-record : (s : List ℕ) (n c : ℕ) → peak_in s n c ≡ record_of (entry_in s n c)
unfolding peak_in entry_in
peak-record s n c = go (eqb (parent_in s n c) c)
  where
    go : (b : Bool)
        → elim b [
          | true ↦ without_key c (height_of (level_in s c))
          | false ↦ with_key c (height_of (level_in s c)) (height_of (level_in s (pass_of s n c))) (pass_of s n c)
        ]
        ≡ record_of (record {
          cell = c;
          level = level_in s c;
          key = pick_key b missing (key (level_in s (pass_of s n c)) (pass_of s n c));
        })
    go true = refl
    go false = refl

map_last : (l : List Entry) (x : Entry) → map record_of (l ++ (x ∷ [])) ≡ map record_of l ++ (record_of x ∷ [])
map_last [] x = refl
map_last (y ∷ l) x = ap (λ (r : List Peak). record_of y ∷ r) (map_last l x)

pub places-record : (s : List ℕ) (n k : ℕ) → records_in s n k ≡ map record_of (entries_in s n k)
unfolding records_in up_to
places-record s n zero = refl
places-record s n (suc k) =
    let ih = places-record s n k in
    rw (ih, peak-record s n (order_in s n k)) (sym (map_last (entries_in s n k) (entry_in s n (order_in s n k))))

pub places-length : (g : ℕ → Entry) (k : ℕ) → length (up_to g k) ≡ k
unfolding up_to
places-length g zero = refl
places-length g (suc k) = length-append (up_to g k) (g k ∷ []) ∙ ap (λ (m : ℕ). m + 1) (places-length g k) ∙ add-one k
