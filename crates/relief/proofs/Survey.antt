-- The survey: a computing twin of the definitions, cell by cell, and that it tells what they say.
--     peak?         p is a peak's cell                  key_level     the key height of the peak p, or 0
--     entry_at      the entry of the peak p             listed?      it is listed at T
--     survey        the list of a grid
-- The key height of a peak is the greatest level of a cell at or above which a better cell is reached: on an island
-- above it there is none, since the least level of a way to it would be greater. Assumes nothing.
use mathlib.Core.Path.{◌≡◌, refl, subst}
use mathlib.Core.Bool.{Bool, true, false, not, ◌&&◌, ◌||◌}
use mathlib.Core.List.{List}
use mathlib.Core.Logic.{◌⊎◌, inl, inr}
use Prim.Native.Nat.{ℕ, zero, suc, ◌-◌, ◌≤◌, ◌<◌}
use native.Mathlib.Omega.{arith}
use lib.Dec.{leb, ltb}
use Rattle.relief.specs.Peaks.{Way, Flat, Peak, Key, missing, key, Entry, Wanted, KeyOf, PeakEntry, Listed}
use Rattle.relief.specs.Peaks.{KeyHeight, NoKey, ListOf}
use Rattle.relief.specs.Inner.{Decides, Better, Best}
use Rattle.relief.proofs.Tests.{split, passes, true-not-false, any_below, all_below, top_below, top_below_lem, le-or-lt}
use Rattle.relief.proofs.Tests.{le-decides, lt-decides, and-decides, any-decides, all-decides, decides-iff}
use Rattle.relief.proofs.Ways.{way_end, way-mono, least-below, least-attained, path-of-way}
use Rattle.relief.proofs.Reach.{reach, way-decides}
use Rattle.relief.proofs.Flats.{Terrain, land-below, flat?, better?, flat-below, flat-decides}
use Rattle.relief.proofs.Flats.{better-decides, peak-not-better}
use Rattle.relief.proofs.Keys.{key-of-best, none-of-best}
use Rattle.relief.proofs.Passes.{pass, pass-exists}
use Rattle.relief.proofs.Lists.{entry-unique, collect, collect-order}

-- ---- the tests

-- where the first test fails, anything follows
abbrev pub implies : Bool → Bool → Bool
implies a b = not a || b

module _ (touch? : ℕ → ℕ → Bool) (level : ℕ → ℕ) (n : ℕ) where
  unfoldable pub peak? : ℕ → Bool
  peak? p =
      ltb 0 (level p)
      && all_below n (λ b. implies (flat? touch? level n p b)
      (leb p b && all_below n (λ c. implies (touch? b c) (leb (level c) (level p)))))

  -- at or above the floor f the cell x reaches a better one
  unfoldable pub joined? : ℕ → ℕ → Bool
  joined? x f = any_below n (λ g. better? level g x && reach touch? (λ c. leb f (level c)) n x g)

  unfoldable pub key_level : ℕ → ℕ
  key_level x = top_below n (λ c. ltb 0 (level c) && joined? x (level c)) level

  abbrev key_from : (ℕ → ℕ) → ℕ → Key
  key_from pass zero = missing
  key_from pass (suc k) = key (suc k) (pass (suc k))

  unfoldable pub entry_at : ℕ → Entry
  entry_at x = record { cell = x; level = level x; key = key_from (pass touch? level n x) (key_level x) }

  abbrev wanted_key : ℕ → ℕ → Key → Bool
  wanted_key T height missing = true
  wanted_key T height (key k c) = leb T (height - k)

  unfoldable pub listed? : ℕ → ℕ → Bool
  listed? T x = peak? x && wanted_key T (level x) (entry_at x).key

  unfoldable pub survey : ℕ → List Entry
  survey T = collect n 0 (listed? T) entry_at

-- ---- what they tell

pub implies-decides : {A B : Type 0} {a b : Bool} → Decides A a → (A → Decides B b) → Decides (A → B) (implies a b)
implies-decides {a = true} p q = let d = q (p.holds refl) in record {
  holds = λ e h. d.holds e;
  fails = λ e f. d.fails e (f (p.holds refl));
}
implies-decides {a = false} p q = record {
  holds = λ e h. absurd (p.fails refl h);
  fails = λ e. true-not-false refl e;
}

-- `both`, where the second is decided only if the first holds
pub and-decides-then : {A B : Type 0} {a b : Bool} → Decides A a → (A → Decides B b) → Decides (A × B) (a && b)
and-decides-then {a = true} p q = let d = q (p.holds refl) in record {
  holds = λ e. (p.holds refl, d.holds e);
  fails = λ e h. d.fails e h.1;
}
and-decides-then {a = false} p q = record {
  holds = λ e. true-not-false e refl;
  fails = λ e h. p.fails refl h.0;
}

module _ {touch : ℕ → ℕ → Type 0} {touch? : ℕ → ℕ → Bool} {level : ℕ → ℕ} {n : ℕ}
    (t : Terrain touch touch? level n) where
  pub peak-decides : (p : ℕ) → Decides (Peak touch level p) (peak? touch? level n p)
  unfolding peak?
  peak-decides p =
      decides-iff make parts
      (and-decides-then (lt-decides 0 (level p))
      (λ l. all-decides (λ b. implies-decides (flat-decides t p l b)
      (λ w. and-decides (le-decides p b)
      (all-decides (λ c. implies-decides (t.decides b c) (λ s. le-decides (level c) (level p))) n))) n))
    where
      Parts : Type 0
      Parts = (0 < level p) × ((b : ℕ) → b < n → Flat touch level p b
          → (p ≤ b) × ((c : ℕ) → c < n → touch b c → level c ≤ level p))

      make : Parts → Peak touch level p
      make h =
          let at : (b : ℕ) → Flat touch level p b → b < n = λ b w. flat-below t h.0 w in
          record {
            land = h.0;
            top = λ b c w s. split (le-or-lt n c)
                (λ k. let e : level c ≡ 0 = t.ends c k in omega arith)
                (λ k. (h.1 b (at b w) w).1 c k s);
            earliest = λ b w. (h.1 b (at b w) w).0;
          }

      parts : Peak touch level p → Parts
      parts q = (q.land, λ b l w. (q.earliest b w, λ c k s. q.top b c w s))

  joined-decides : (x f : ℕ) → 0 < f
      → Decides ((g : ℕ) × (g < n) × (Better level g x × Way touch (λ c. f ≤ level c) x g)) (joined? touch? level n x f)
  unfolding joined?
  joined-decides x f l =
      any-decides (λ g. and-decides (better-decides level g x)
      (way-decides t.decides (λ c. le-decides f (level c)) n (λ c h. land-below t c (omega arith)) x g)) n

  -- what `key_level` is the top of
  joint-decides : (x c : ℕ)
      → Decides ((0 < level c) × ((g : ℕ) × (g < n) × (Better level g x × Way touch (λ d. level c ≤ level d) x g)))
      (ltb 0 (level c) && joined? touch? level n x (level c))
  joint-decides x c = and-decides-then (lt-decides 0 (level c)) (joined-decides x (level c))

  key_level-best : (x : ℕ) → Best touch level (key_level touch? level n x) x
  unfolding key_level
  key_level-best x c w b =
      let k = key_level touch? level n x in
      let (v, l) = path-of-way level {f = suc k} (omega arith) w in
      let (d, m, e) = least-attained level v in
      let u : Way touch (λ a. level d ≤ level a) x c = least-below level v (level d) (omega arith) in
      let h =
      passes (joint-decides x d) (
        m,
        (c, land-below t c (let i : k < level c = way_end w in omega arith), (b, u)),
      ) in
      let i : level d ≤ k =
      (top_below_lem n (λ c. ltb 0 (level c) && joined? touch? level n x (level c)) level).upper d
      (land-below t d m) h in
      omega arith

  key_level-key : (x : ℕ) → Peak touch level x → 0 < key_level touch? level n x
      → KeyHeight touch level x (key_level touch? level n x)
  unfolding key_level
  key_level-key x p l =
      let k = key_level touch? level n x in
      let (d, m, h, e) =
      (top_below_lem n (λ c. ltb 0 (level c) && joined? touch? level n x (level c)) level).attained l in
      let (i, (g, j, (b, w))) = (joint-decides x d).holds h in
      let v : Way touch (λ a. k ≤ level a) x g = way-mono (λ a q. omega arith) w in
      let below : k < level x =
      split (le-or-lt (level x) k) (λ q. absurd (peak-not-better p (way-mono (λ a r. omega arith) v) b)) (λ q. q) in
      key-of-best t l below (key_level-best x) b v

  -- ---- the entry of a peak

  pub entry_at-right : (x : ℕ) → Peak touch level x → PeakEntry touch level (entry_at touch? level n x)
  unfolding entry_at
  entry_at-right x p = record { peak = p; height = refl; keyed = go (key_level touch? level n x) refl }
    where
      go : (k : ℕ) → key_level touch? level n x ≡ k
          → KeyOf touch level x (key_from touch? level n (pass touch? level n x) k)
      go zero e = none-of-best t.symmetric p.land (subst (λ (k : ℕ). Best touch level k x) e (key_level-best x))
      go (suc k) e =
          let h : KeyHeight touch level x (suc k) =
          subst (λ (k : ℕ). KeyHeight touch level x k) e (key_level-key x p (omega arith)) in
          (h, pass-exists t p h)

  -- the only entry of a peak is the one that the survey makes
  pub entry_at-only : (e : Entry) → PeakEntry touch level e → e ≡ entry_at touch? level n e.cell
  unfolding entry_at
  entry_at-only e h = entry-unique e (entry_at touch? level n e.cell) h (entry_at-right e.cell h.peak) refl

  pub peak-key : (x : ℕ) → Peak touch level x → ((k : ℕ) × KeyHeight touch level x k) ⊎ NoKey touch level x
  unfolding entry_at
  peak-key x p = go (entry_at touch? level n x).key (entry_at-right x p).keyed
    where
      go : (k : Key) → KeyOf touch level x k → ((k : ℕ) × KeyHeight touch level x k) ⊎ NoKey touch level x
      go missing h = inr h
      go (key k c) h = inl (k, h.0)

  -- ---- the list

  wanted-decides : (T height : ℕ) (k : Key) → Decides (Wanted T height k) (wanted_key touch? level n T height k)
  wanted-decides T height missing = record { holds = λ e. tt; fails = λ e. true-not-false refl e }
  wanted-decides T height (key k c) = le-decides T (height - k)

  pub listed-decides : (T x : ℕ)
      → Decides (Listed touch level T (entry_at touch? level n x)) (listed? touch? level n T x)
  unfolding listed? entry_at
  listed-decides T x =
      decides-iff
      (λ h. record { right = entry_at-right x h.0; wanted = h.1 })
      (λ h. (h.right.peak, h.wanted))
      (and-decides (peak-decides x) (wanted-decides T (level x) (entry_at touch? level n x).key))

  pub survey-list : (T : ℕ) → ListOf touch level T (survey touch? level n T)
  unfolding survey entry_at
  survey-list T =
      collect-order (Listed touch level T) (listed? touch? level n T) (entry_at touch? level n) (λ i. refl)
      (listed-decides T) (λ e h. entry_at-only e h.right) n (λ e h. land-below t e.cell h.right.peak.land)
