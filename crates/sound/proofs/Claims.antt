-- The claims hold. The height of an entry is that of its cell, a key height is that of its pass cell and below the
-- peak's (`key_below`), and neither is blank (`land`, `key-land`); so each record is sound. The cells of a list rise,
-- so each is later than the one before it. Assumes nothing.
use mathlib.Core.List.{List, [], ◌∷◌, map}
use mathlib.Core.Logic.{◌⊎◌, inl, inr}
use mathlib.Core.Path.{◌≡◌, refl, sym, ap, ◌∙◌}
use Prim.Native.Nat.{ℕ, zero, suc, ◌≤◌, ◌<◌}
use native.Mathlib.Decide.{dec_lt}
use native.Mathlib.Omega.{arith}
use lib.IntN.{ℤ}
use lib.ListN.{length, get_or, get_or-eq_default}
use mir.Syntax.{w32}
use mir.Val.{SFits}
use Rattle.relief.specs.Heights.{BLANK, level_of, height_of, levels}
use Rattle.relief.specs.Peaks.{Key, missing, key, Entry, Member, Rising, KeyOf, PeakEntry, Listed}
use Rattle.relief.proofs.Keys.{key-land, key_below}
use Rattle.relief.proofs.Levels.{height_of-level}
use Rattle.record.specs.declared.Peak.{Peak}
use Rattle.record.specs.Records.{key_record, record_of}
use Rattle.scale.proofs.Levels.{level-below, level-injective, level-blank-iff, level-lt-iff}
use Rattle.sound.specs.Sound.{Keyless, Keyed, Sound, ith_of, least_at}
use Rattle.sound.specs.Claims.{ListSound, Claims}

-- ---- a cell with a height is there, and holds the height of its level

record Held (hs : List ℤ) (c l : ℕ) : Type 0 where
  exists : c < length hs
  holds : get_or hs c BLANK ≡ height_of l
  fits : SFits w32 (height_of l)
  level : level_of (height_of l) ≡ l

module _ (hs : List ℤ) (fit : (i : ℕ) → i < length hs → SFits w32 (get_or hs i BLANK)) where
  held : (c : ℕ) {l : ℕ} → levels hs c ≡ l → 0 < l → Held hs c l
  unfolding levels level_of
  held c {l} e land = elim (dec_lt c (length hs)) [
    | no n ↦
        let none : level_of (get_or hs c BLANK) ≡ 0 = ap level_of (get_or-eq_default hs BLANK (omega arith)) in
        absurd (omega arith)
    | yes inside ↦
        let h = height_of-level l (omega (arith, level-below (fit c inside))) in
        let fits : SFits w32 (height_of l) = record { sfits = h.1 } in
        record {
          exists = inside;
          holds = level-injective (fit c inside) fits (e ∙ sym h.0);
          fits = fits;
          level = h.0;
        }
  ]

  not-blank : {c l : ℕ} → Held hs c l → 0 < l → height_of l ≡ BLANK → ⊥
  not-blank h land b = let z = (level-blank-iff h.fits).1 b in omega (arith, h.level)

  -- ---- an entry's record is sound

  module _ (touch : ℕ → ℕ → Type 0) (symmetric : (a b : ℕ) → touch a b → touch b a)
      (few : length hs ≤ 4294967295) where
    entry-sound : (e : Entry) → PeakEntry touch (levels hs) e → (least : ℕ) → least ≤ e.cell
        → Sound hs least (record_of e)
    entry-sound e p least later = by_key e.key p.keyed
      where
        land : 0 < e.level
        land = rw p.height at p.peak.land

        here : Held hs e.cell e.level
        here = held e.cell p.height land

        whole : (k : Key) → (cell : (key_record e.cell e.level k).cell ≡ e.cell)
            → (key_record e.cell e.level k).height ≡ height_of e.level
            → Keyless (key_record e.cell e.level k) ⊎ Keyed hs (key_record e.cell e.level k)
            → Sound hs least (key_record e.cell e.level k)
        whole k cell height keys = record {
          exists = rw cell here.exists;
          later = rw cell later;
          holds = rw (cell, height) here.holds;
          height = rw height (not-blank here land);
          keys = keys;
        }

        by_key : (k : Key) → KeyOf touch (levels hs) e.cell k → Sound hs least (key_record e.cell e.level k)
        by_key missing n = whole missing refl refl (inl (record { key = refl; pass = refl }))
        by_key (key k c) n =
            let some = key-land n.0 in
            let there = held c n.1.height some in
            let below = key_below symmetric p.peak n.0 in
            whole (key k c) refl refl (inr (record {
              key = not-blank there some;
              pass = λ m. omega (arith, there.exists);
              below = (level-lt-iff there.fits here.fits).1 (omega (arith, there.level, here.level, p.height));
              exists = there.exists;
              holds = there.holds;
            }))

-- ---- a row of them

-- what the record before leaves to the i-th, if b is left to the first
least_from : ℕ → List Peak → ℕ → ℕ
least_from b ps zero = b
least_from b ps (suc i) = suc (ith_of ps i).cell

module _ {hs : List ℤ} {Right : Entry → Type 0}
    (sound : (e : Entry) → Right e → (least : ℕ) → least ≤ e.cell → Sound hs least (record_of e)) where
  record-cell : (c l : ℕ) (k : Key) → c ≡ (key_record c l k).cell
  record-cell c l missing = refl
  record-cell c l (key k pass) = refl

  rising-sound : (b : ℕ) (l : List Entry) → Rising b l → ((e : Entry) → Member e l → Right e) → (i : ℕ)
      → i < length (map record_of l) → Sound hs (least_from b (map record_of l) i) (ith_of (map record_of l) i)
  unfolding least_from ith_of
  rising-sound b [] rising right i h = absurd (omega arith)
  rising-sound b (e ∷ l) rising right zero h = sound e (right e (inl refl)) b rising.0
  rising-sound b (e ∷ l) rising right (suc zero) h =
      rw (record-cell e.cell e.level e.key) at
      (rising-sound (suc e.cell) l rising.1 (λ x m. right x (inr m)) zero (omega arith))
  rising-sound b (e ∷ l) rising right (suc (suc i)) h =
      rising-sound (suc e.cell) l rising.1 (λ x m. right x (inr m)) (suc i) (omega arith)

list-sound : ListSound
unfolding least_at least_from
list-sound touch symmetric hs fit few T l listed i h =
    from_start i (rising-sound sound 0 l listed.rising listed.sound i h)
  where
    sound : (e : Entry) → Listed touch (levels hs) T e → (least : ℕ) → least ≤ e.cell → Sound hs least (record_of e)
    sound e r = entry-sound hs fit touch symmetric few e r.right

    from_start : (i : ℕ) → Sound hs (least_from 0 (map record_of l) i) (ith_of (map record_of l) i)
        → Sound hs (least_at (map record_of l) i) (ith_of (map record_of l) i)
    from_start zero s = s
    from_start (suc i) s = s

pub claims : Claims
claims = record { list-sound = list-sound }
