-- Calls that hand out records: their promise at each kind of return, the lent row filled from what a flat call leaves,
-- and that the promise allows one outcome.
--     worked-early, worked-late         the work area where a test refuses, and where none does
--     flat-refused, flat-made           the promise of a flat call that a test refuses, and of one that does its work
--     told-passed                       a call that hands out records passed its tests
--     hands-unique, flat-unique         one outcome, where just one list is right
-- Assumes nothing.
use Rattle.std.specs.Prelude.{Result, Ok, Err}
use mathlib.Core.Path.{◌≡◌, refl, sym, ◌∙◌, ap, ap₂, subst}
use mathlib.Core.Bool.{Bool, true, false, cond}
use mathlib.Core.List.{List, [], ◌∷◌, ◌++◌, map}
use Prim.Native.Nat.{ℕ, ◌*◌, ◌≤◌, ◌<◌}
use native.Mathlib.Omega.{arith}
use lib.Dec.{ltb}
use lib.ListN.{length, drop, get_or}
use borrow.Author.Tests.{lt-ltb, le-ltb, ltb-true, ltb-false}
use Rattle.relief.specs.Peaks.{Entry}
use Rattle.record.specs.declared.Peak.{Peak}
use Rattle.record.specs.declared.Refusal.{Refusal}
use Rattle.record.specs.declared.Refusal.TheVariants.{Table}
use Rattle.record.specs.Records.{record_of}
use Rattle.record.specs.Refusals.{granted, checked_told, first_of, handed_told}
use Rattle.record.proofs.Refusals.{told-refused, handed-differ}
use Rattle.record.proofs.Tests.{bad-not-good, first-end, first-before}
use Rattle.table.specs.Promises.{handed_by, table_after, Worked, Hands}
use Rattle.table.specs.Inner.{Standing, records_in, room_answer, HandsFlat}

pub refused-count : {r : Refusal} {n : ℕ} → ◌≡◌ {A = Result ℕ Refusal} (Err r) (Ok n) → ⊥
refused-count e = let z : ◌≡◌ {A = ℕ} 0 1 = cc in omega arith

pub count_same : {m n : ℕ} → ◌≡◌ {A = Result ℕ Refusal} (Ok m) (Ok n) → m ≡ n
count_same e = cc

-- ---- the work area

module _ {tests : List (Bool × Refusal)} {cells : ℕ} {work left : List ℕ} where
  pub worked-early : left ≡ work → Worked tests cells work left
  worked-early same = record {
    unused = λ r e. same;
    same_length = ap length same;
    beyond = λ i l. ap (λ (s : List ℕ). get_or s i 0) same;
  }

  pub worked-late : first_of tests ≡ Ok tt → length left ≡ length work
      → ((i : ℕ) → 16 * cells ≤ i → get_or left i 0 ≡ get_or work i 0) → Worked tests cells work left
  worked-late good len beyond = record {
    unused = λ r e. bad-not-good e good;
    same_length = len;
    beyond = beyond;
  }

-- what two calls of one promise leave
pub worked-unique : {tests : List (Bool × Refusal)} {cells : ℕ} {work w v : List ℕ} → Worked tests cells work w
    → Worked tests cells work v → Worked tests cells w v
worked-unique h k = record {
  unused = λ r e. k.unused r e ∙ sym (h.unused r e);
  same_length = k.same_length ∙ sym h.same_length;
  beyond = λ i l. k.beyond i l ∙ sym (h.beyond i l);
}

-- ---- a flat call at each kind of return

told-end : (tests : List (Bool × Refusal)) (room needed : ℕ) → first_of tests ≡ Ok tt → {b : Bool} → ltb room needed ≡ b
    → handed_by tests room needed ≡ checked_told (cond b (Err (Table needed)) (Ok tt)) (granted (needed ∷ []))
told-end tests room needed good e =
    ap (λ (c : Result (Unit {0}) Refusal). checked_told c (granted (needed ∷ [])))
    (first-end tests (ltb room needed) (Table needed) good ∙ ap (λ (x : Bool). cond x (Err (Table needed)) (Ok tt)) e)

module _ (tests : List (Bool × Refusal)) {cells : ℕ} {Right : List Entry → Type 0} {work : List ℕ} {room : ℕ}
    {left : List ℕ} (entries : List Entry) (right : Right entries) where
  pub flat-refused : {r : Refusal} → first_of tests ≡ Err r → left ≡ work
      → HandsFlat tests cells Right work room left (Err r)
  flat-refused bad same = record {
    entries = entries;
    right = right;
    answered = ap (λ (c : Result (Unit {0}) Refusal). checked_told c (granted (length entries ∷ [])))
        (sym (first-before tests ((ltb room (length entries), Table (length entries)) ∷ []) bad));
    standing = λ n q. absurd (refused-count q);
    records = λ n q. absurd (refused-count q);
    worked = worked-early same;
  }

  -- the work is done, and m entries stand in the work area
  module _ (good : first_of tests ≡ Ok tt) (worked : Worked tests cells work left) {m : ℕ} (e : m ≡ length entries)
      (stand : Standing left cells m) (told : records_in left cells m ≡ map record_of entries) where
    short : room < m → HandsFlat tests cells Right work room left (Err (Table m))
    short l = record {
      entries = entries;
      right = right;
      answered = ap (λ (n : ℕ). handed_told (Err (Table n))) e
          ∙ sym (told-end tests room (length entries) good (lt-ltb room (length entries) (omega arith)));
      standing = λ n q. absurd (refused-count q);
      records = λ n q. absurd (refused-count q);
      worked = worked;
    }

    enough : m ≤ room → HandsFlat tests cells Right work room left (Ok m)
    enough l = record {
      entries = entries;
      right = right;
      answered = ap (λ (n : ℕ). handed_told (Ok n)) e
          ∙ sym (told-end tests room (length entries) good (le-ltb room (length entries) (omega arith)));
      standing = λ n q.
          (subst (Standing left cells) (count_same q) stand, subst (λ (x : ℕ). x ≤ room) (count_same q) l);
      records = λ n q. ap (records_in left cells) (sym (count_same q)) ∙ told;
      worked = worked;
    }

    pub flat-made : {a : Result ℕ Refusal} → a ≡ room_answer room m → HandsFlat tests cells Right work room left a
    flat-made q = subst (HandsFlat tests cells Right work room left) (sym q) (go (ltb room m) refl)
      where
        go : (b : Bool) → ltb room m ≡ b
            → HandsFlat tests cells Right work room left (cond b (Err (Table m)) (Ok m))
        go true f = short (ltb-true room m f)
        go false f = enough (ltb-false room m f)

-- ---- the row

module _ {tests : List (Bool × Refusal)} {cells : ℕ} {Right : List Entry → Type 0} {work : List ℕ}
    (table : List Peak) {left : List ℕ} where
  after : (a : Result ℕ Refusal) → (h : HandsFlat tests cells Right work (length table) left a) → {t : List Peak}
      → ((n : ℕ) → a ≡ Ok n → t ≡ records_in left cells n ++ drop n table)
      → ((r : Refusal) → a ≡ Err r → t ≡ table)
      → t ≡ table_after a (map record_of h.entries) table
  after (Ok n) h filled kept =
      filled n refl ∙ ap (λ (l : List Peak). l ++ drop n table) (h.records n refl)
  after (Err r) h filled kept = kept r refl

-- ---- a call that hands out records

pub told-passed : (tests : List (Bool × Refusal)) (room needed n : ℕ)
    → handed_told (Ok n) ≡ handed_by tests room needed → first_of tests ≡ Ok tt
told-passed tests room needed n told = go (first_of tests) refl
  where
    go : (c : Result (Unit {0}) Refusal) → first_of tests ≡ c → c ≡ Ok tt
    go (Ok tt) e = refl
    go (Err r) e = told-refused r (n ∷ []) (sym (told
        ∙ ap (λ (c : Result (Unit {0}) Refusal). checked_told c (granted (needed ∷ [])))
        (first-before tests ((ltb room needed, Table needed) ∷ []) e)))

-- ---- one outcome

module _ {tests : List (Bool × Refusal)} {cells : ℕ} {Right : List Entry → Type 0} {work : List ℕ}
    (one : (l m : List Entry) → Right l → Right m → l ≡ m) where
  pub hands-unique : {w v : List ℕ} {table t u : List Peak} {a b : Result ℕ Refusal}
      → Hands tests cells Right work w table t a → Hands tests cells Right work v table u b
      → (a ≡ b) × (t ≡ u) × Worked tests cells w v
  hands-unique {table = table} {a = a} {b} h k =
      let e = one h.entries k.entries h.right k.right in
      let q : a ≡ b = handed-differ a b (h.answered
      ∙ ap (λ (l : List Entry). handed_by tests (length table) (length l)) e ∙ sym k.answered) in
      let f = ap₂ (λ (x : Result ℕ Refusal) (l : List Entry). table_after x (map record_of l) table) q e in
      (q, h.filled ∙ f ∙ sym k.filled, worked-unique h.worked k.worked)

  -- of the flat calls: the records that stand in the work area
  pub flat-unique : {room : ℕ} {w v : List ℕ} {a b : Result ℕ Refusal}
      → HandsFlat tests cells Right work room w a → HandsFlat tests cells Right work room v b
      → (a ≡ b) × ((n : ℕ) → a ≡ Ok n → records_in w cells n ≡ records_in v cells n) × Worked tests cells w v
  flat-unique {room} {w} {v} {a} {b} h k =
      let e = one h.entries k.entries h.right k.right in
      let q : a ≡ b = handed-differ a b (h.answered
      ∙ ap (λ (l : List Entry). handed_by tests room (length l)) e ∙ sym k.answered) in (
        q,
        (λ n c. h.records n c ∙ ap (map record_of) e ∙ sym (k.records n (sym q ∙ c))),
        worked-unique h.worked k.worked,
      )
