-- Answers as one signed number, and records handed out as bytes.
--     count-read                    a number below 2^32 is read from 64 bits as it is
--     refused-bytes                 the table as it came, where a refusal is told
--     handed-laid                   the table with the records of an answer is as promised
--     bytes-unique                  which allows one outcome, where just one list is right
-- Assumes nothing.
use Rattle.std.specs.Prelude.{Ok}
use Rattle.std.proofs.Common.{◌≡◌, ℕ, zero, suc, ◌*◌, ◌/◌, ◌<◌, Bool, List, ◌++◌, map, length, drop, ℤ, pos}
use Rattle.std.proofs.Common.{sym, refl, ap, ◌∙◌, ap₂, arith, w64, to_z}
use mir.ValLaws.{to_z_pos}
use Rattle.relief.specs.Peaks.{Entry}
use Rattle.record.specs.declared.Peak.{Peak}
use Rattle.record.specs.declared.Refusal.{Refusal}
use Rattle.record.specs.Records.{record_of}
use Rattle.record.specs.Refusals.{told_of, handed_told}
use Rattle.record.proofs.Refusals.{told-refused}
use Rattle.table.specs.Promises.{handed_by, Worked}
use Rattle.table.specs.Inner.{records_in}
use Rattle.table.proofs.Handed.{worked-unique}
use Rattle.table.proofs.Laws.{records-length}
use Rattle.words.specs.Words.{over}
use Rattle.layout.proofs.Laid.{laid-front}
use Rattle.layout.specs.Layout.{bytes_of, all_fields_of}
use Rattle.layout.specs.Promises.{signed_by, signed_told, bytes_after, HandsBytes}

-- ---- numbers of 64 bits

pub count-read : (n : ℕ) → n < 4294967296 → to_z w64 n ≡ pos n
count-read n h = to_z_pos w64 n (omega arith)

-- ---- a refusal

numbered : (r : Refusal) → (told_of r).number ≡ 0 → ⊥
numbered r e = told-refused r (told_of r).values (λ i. record { number = e i; values = (told_of r).values })

pub refused-bytes : (r : Refusal) (records : List Peak) (table : List ℕ)
    → bytes_after (signed_told (told_of r)) records table ≡ table
refused-bytes r records table = go (told_of r).number (told_of r).values (numbered r)
  where
    go : (n : ℕ) (values : List ℕ) → (n ≡ 0 → ⊥) → bytes_after (signed_by n values) records table ≡ table
    go zero values d = absurd (d refl)
    go (suc n) values d = refl

-- ---- an answer handed out

-- the records that an answer hands out, laid into the table, are as promised; at a refusal none is laid
pub handed-laid : (work : List ℕ) (cells : ℕ) (table : List ℕ) (n : ℕ)
    → over table (4 * 0) (bytes_of (all_fields_of (records_in work cells n)))
    ≡ bytes_after (signed_told (handed_told (Ok n))) (records_in work cells n) table
handed-laid work cells table n =
    laid-front table (records_in work cells n)
    ∙ ap (λ (k : ℕ). bytes_of (all_fields_of (records_in work cells n)) ++ drop (16 * k) table)
    (records-length work cells n)

-- ---- one outcome

pub bytes-unique : {tests : List (Bool × Refusal)} {cells : ℕ} {Right : List Entry → Type 0}
    {work w v table t u : List ℕ} {a b : ℤ} → ((l m : List Entry) → Right l → Right m → l ≡ m)
    → HandsBytes tests cells Right work w table t a → HandsBytes tests cells Right work v table u b
    → (a ≡ b) × (t ≡ u) × Worked tests cells w v
bytes-unique {tests} {table = table} {a = a} {b} one h k =
    let e = one h.entries k.entries h.right k.right in
    let q : a ≡ b = h.answered
    ∙ ap (λ (l : List Entry). signed_told (handed_by tests (length table / 16) (length l))) e ∙ sym k.answered in
    let f = ap₂ (λ (x : ℤ) (l : List Entry). bytes_after x (map record_of l) table) q e in
    (q, h.filled ∙ f ∙ sym k.filled, worked-unique h.worked k.worked)
