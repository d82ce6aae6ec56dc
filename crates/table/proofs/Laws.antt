-- Laws of the records in the work area.
--     height-unique               a height of 32 bits with the level l, passed on, is `height_of l`
--     peak-without-key            the record of a cell that hangs under none
--     peak-with-key               the record of another
--     standing-pointed            what `record_at` asks of the i-th cell, of a work area with so many listed cells
--     records-grow                the records of the first cells of the order are a row that grows
--     records-length              .. and how many they are
-- Assumes nothing.
use mathlib.Core.Path.{◌≡◌, refl, sym, ◌∙◌}
use mathlib.Core.List.{List}
use Prim.Native.Nat.{ℕ, ◌<◌}
use native.Mathlib.Omega.{arith}
use borrow.Author.Tests.{eq-eqb, ne_eqb}
use lib.IntN.{ℤ}
use lib.ListN.{length}
use lib.Signed.{mag}
use mir.Syntax.{w32}
use mir.Val.{to_z, of_z, SFits}
use mir.ValLaws.{to_z-of_z}
use Rattle.relief.specs.Heights.{level_of, height_of}
use Rattle.relief.proofs.Levels.{height_of-level}
use Rattle.record.specs.Records.{with_key, without_key}
use Rattle.scale.proofs.Levels.{level-injective}
use Rattle.area.specs.Area.{level_in, order_in, parent_in, pass_in, cell_in}
use Rattle.table.specs.Inner.{Pointed, peak_in, records_in, Standing}
use Rattle.table.proofs.Grows.{Grows, grows-length}

-- ---- one record

pub height-unique : (r : ℤ) (l : ℕ) → mag r < 2147483648 → l < 4294967296 → level_of r ≡ l
    → to_z w32 (of_z w32 r) ≡ height_of l
height-unique r l small below e =
    let fits : SFits w32 r = record { sfits = small } in
    let h = height_of-level l below in
    to_z-of_z w32 r fits ∙ level-injective fits (record { sfits = h.1 }) (e ∙ sym h.0)

pub peak-without-key : (s : List ℕ) (n c : ℕ) → parent_in s n c ≡ c
    → peak_in s n c ≡ without_key c (height_of (level_in s c))
unfolding peak_in
peak-without-key s n c e = rw (peak_in, eq-eqb (parent_in s n c) c e)

pub peak-with-key : (s : List ℕ) (n c : ℕ) → (parent_in s n c ≡ c → ⊥)
    → let pass = cell_in (pass_in s n c) in
    peak_in s n c ≡ with_key c (height_of (level_in s c)) (height_of (level_in s pass)) pass
unfolding peak_in
peak-with-key s n c e = rw (peak_in, ne_eqb (parent_in s n c) c e)

pub standing-pointed : {s : List ℕ} {n count : ℕ} → Standing s n count → (i : ℕ) → i < count
    → (i < n) × Pointed s n (order_in s n i)
standing-pointed h i l =
    let f = h.few in
    (omega arith, record { area = h.area; cell = h.cells i l; pass = h.passes i l })

-- ---- the records in the order

pub records-grow : (s : List ℕ) (n count : ℕ) → Grows (records_in s n) (λ i. peak_in s n (order_in s n i)) count
unfolding records_in
records-grow s n count = record { start = refl; next = λ i l. refl }

pub records-length : (s : List ℕ) (n count : ℕ) → length (records_in s n count) ≡ count
records-length s n count = grows-length (records-grow s n count) count (omega arith)
