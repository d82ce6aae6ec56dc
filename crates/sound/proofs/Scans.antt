-- Laws of sound records.
--     dec_sound                 whether a record is sound can be decided
--     SoundBefore hs ps i least       the records before the i-th are sound, and least is the least cell left to it
--     scan-start, scan_step    how a scan goes on
--     scan-next                the same of a record and a number that are equal to those
--     scan-stop, scan-done     how it ends: at an unsound record, or behind the last
--     first-total              there is a first unsound record, or all are sound
--     first-unique             its index is one number
--     first-few                it is no more than the number of cells
--     first-all                where all records are sound, it is their number
-- A scan goes through the records. Cells of sound records rise, so the i-th is at least i. Assumes nothing.
use mathlib.Core.List.{List}
use mathlib.Core.Logic.{◌⊎◌, inl, inr}
use mathlib.Core.Bool.{Bool, true, false}
use mathlib.Core.Path.{◌≡◌, refl, ap}
use Prim.Native.Nat.{ℕ, zero, suc, ◌+◌, ◌≤◌, ◌<◌}
use native.Mathlib.Decide.{dec_lt, dec_le, ℕ_discrete}
use native.Mathlib.Numerals.{add-one}
use native.Mathlib.Omega.{arith}
use lib.IntN.{ℤ, negsuc, ℤ_discrete}
use lib.ListN.{length, get_or}
use lib.Signed.{◌<ℤ◌, lt_z}
use Rattle.relief.specs.Heights.{BLANK}
use Rattle.record.specs.declared.Peak.{Peak}
use Rattle.sound.specs.Sound.{Keyless, Keyed, Sound, ith_of, least_at, FirstUnsound}

-- ---- decided

dec_below : (a b : ℤ) → Dec (a <ℤ b)
dec_below a b = go (lt_z a b) refl
  where
    go : (t : Bool) → lt_z a b ≡ t → Dec (a <ℤ b)
    go true e = yes (record { lt = rw e tt })
    go false e = no (λ h. rw e at h.lt)

dec_keyless : (p : Peak) → Dec (Keyless p)
dec_keyless p = elim (ℤ_discrete p.key (negsuc 2147483647)) [
  | no n ↦ no (λ k. n k.key)
  | yes e ↦ elim (ℕ_discrete p.pass 4294967295) [
    | no n ↦ no (λ k. n k.pass)
    | yes d ↦ yes (record { key = e; pass = d })
  ]
]

dec_keyed : (hs : List ℤ) (p : Peak) → Dec (Keyed hs p)
dec_keyed hs p = elim (ℤ_discrete p.key (negsuc 2147483647)) [
  | yes e ↦ no (λ k. k.key e)
  | no n ↦ elim (ℕ_discrete p.pass 4294967295) [
    | yes e ↦ no (λ k. k.pass e)
    | no m ↦ elim (dec_below p.key p.height) [
      | no b ↦ no (λ k. b k.below)
      | yes b ↦ elim (dec_lt p.pass (length hs)) [
        | no l ↦ no (λ k. l k.exists)
        | yes l ↦ elim (ℤ_discrete (get_or hs p.pass BLANK) p.key) [
          | no h ↦ no (λ k. h k.holds)
          | yes h ↦ yes (record { key = n; pass = m; below = b; exists = l; holds = h })
        ]
      ]
    ]
  ]
]

dec_keys : (hs : List ℤ) (p : Peak) → Dec (Keyless p ⊎ Keyed hs p)
dec_keys hs p = elim (dec_keyless p) [
  | yes k ↦ yes (inl k)
  | no n ↦ elim (dec_keyed hs p) [
    | yes k ↦ yes (inr k)
    | no m ↦ no (λ s. neither n m s)
  ]
]
  where
    neither : (Keyless p → ⊥) → (Keyed hs p → ⊥) → Keyless p ⊎ Keyed hs p → ⊥
    neither n m (inl k) = n k
    neither n m (inr k) = m k

dec_sound : (hs : List ℤ) (least : ℕ) (p : Peak) → Dec (Sound hs least p)
dec_sound hs least p = elim (dec_lt p.cell (length hs)) [
  | no n ↦ no (λ s. n s.exists)
  | yes l ↦ elim (dec_le least p.cell) [
    | no n ↦ no (λ s. n s.later)
    | yes m ↦ elim (ℤ_discrete (get_or hs p.cell BLANK) p.height) [
      | no n ↦ no (λ s. n s.holds)
      | yes h ↦ elim (ℤ_discrete p.height BLANK) [
        | yes b ↦ no (λ s. s.height b)
        | no b ↦ elim (dec_keys hs p) [
          | no n ↦ no (λ s. n s.keys)
          | yes k ↦ yes (record { exists = l; later = m; holds = h; height = b; keys = k })
        ]
      ]
    ]
  ]
]

-- ---- a scan

pub record SoundBefore (hs : List ℤ) (ps : List Peak) (i least : ℕ) : Type 0 where
  pub within : i ≤ length ps
  pub floor : least ≡ least_at ps i
  pub before : (j : ℕ) → j < i → Sound hs (least_at ps j) (ith_of ps j)

pub scan-start : (hs : List ℤ) (ps : List Peak) → SoundBefore hs ps 0 0
unfolding least_at
scan-start hs ps = record { within = omega arith; floor = refl; before = λ j l. absurd (omega arith) }

module _ {hs : List ℤ} {ps : List Peak} {i least : ℕ} (scan : SoundBefore hs ps i least) where
  floored : Sound hs least (ith_of ps i) → Sound hs (least_at ps i) (ith_of ps i)
  floored s = rw scan.floor at s

  pub scan_step :
      i < length ps → Sound hs least (ith_of ps i) → SoundBefore hs ps (suc i) (suc (ith_of ps i).cell)
  unfolding least_at
  scan_step l s = record {
    within = omega arith;
    floor = refl;
    before = λ j k. elim (ℕ_discrete j i) [
      | yes e ↦ rw e (floored s)
      | no n ↦ scan.before j (omega arith)
    ];
  }

  pub scan-next :
      i < length ps → {p : Peak} → p ≡ ith_of ps i → Sound hs least p → {next : ℕ} → next ≡ p.cell + 1 →
      SoundBefore hs ps (i + 1) next
  scan-next l {p} e s {next} d =
      let on = scan_step l (rw e at s) in
      let behind : suc (ith_of ps i).cell ≡ next = omega (arith, d, ap (λ (q : Peak). q.cell) e) in
      rw (add-one i) (rw behind at on)

  pub scan-stop : (Sound hs least (ith_of ps i) → ⊥) → FirstUnsound hs ps i
  scan-stop n = record {
    within = scan.within;
    before = scan.before;
    here = λ l s. n (rw scan.floor s);
  }

  pub scan-done : length ps ≤ i → FirstUnsound hs ps i
  scan-done l = record {
    within = scan.within;
    before = scan.before;
    here = λ m s. absurd (omega arith);
  }

-- ---- the first unsound record

pub first-total : (hs : List ℤ) (ps : List Peak) → (i : ℕ) × FirstUnsound hs ps i
first-total hs ps = go (length ps) 0 0 (omega arith) (scan-start hs ps)
  where
    go : (k i least : ℕ) → length ps ≤ i + k → SoundBefore hs ps i least → (j : ℕ) × FirstUnsound hs ps j
    go zero i least h scan = (i, scan-done scan (omega arith))
    go (suc k) i least h scan =
        let on :
        i < length ps → Sound hs least (ith_of ps i) → (j : ℕ) × FirstUnsound hs ps j =
        λ l s. go k (suc i) (suc (ith_of ps i).cell) (omega arith) (scan_step scan l s) in
        elim (dec_lt i (length ps)) [
          | no n ↦ (i, scan-done scan (omega arith))
          | yes l ↦ elim (dec_sound hs least (ith_of ps i)) [
            | no n ↦ (i, scan-stop scan n)
            | yes s ↦ on l s
          ]
        ]

module _ {hs : List ℤ} {ps : List Peak} {i : ℕ} (first : FirstUnsound hs ps i) where
  first-last : (j : ℕ) → FirstUnsound hs ps j → i < j → ⊥
  first-last j other l =
      let h = other.within in
      first.here (omega arith) (other.before i l)

  rises : (j : ℕ) → j ≤ i → j ≤ least_at ps j
  unfolding least_at
  rises zero l = omega arith
  rises (suc j) l = let h = rises j (omega arith) in omega (arith, (first.before j (omega arith)).later)

  below-cells : (j : ℕ) → j < i → j < length hs
  below-cells j l =
      let s = first.before j l in
      omega (arith, rises j (omega arith), s.later, s.exists)

pub first-unique :
    {hs : List ℤ} {ps : List Peak} {i j : ℕ} → FirstUnsound hs ps i → FirstUnsound hs ps j → i ≡ j
first-unique {i} {j} a b = elim (dec_lt i j) [
  | yes l ↦ absurd (first-last a j b l)
  | no n ↦ elim (dec_lt j i) [
    | yes l ↦ absurd (first-last b i a l)
    | no m ↦ omega arith
  ]
]

pub first-few : {hs : List ℤ} {ps : List Peak} {i : ℕ} → FirstUnsound hs ps i → i ≤ length hs
first-few {i = zero} first = omega arith
first-few {i = suc i} first = omega (arith, below-cells first i (omega arith))

pub first-all :
    {hs : List ℤ} {ps : List Peak} {i : ℕ} → FirstUnsound hs ps i →
    ((j : ℕ) → j < length ps → Sound hs (least_at ps j) (ith_of ps j)) → i ≡ length ps
first-all {ps} {i} first all = elim (dec_lt i (length ps)) [
  | yes l ↦ absurd (first.here l (all i l))
  | no n ↦ let h = first.within in omega arith
]
