-- A proof of each claim of `specs/Claims.antt`, from the laws of `relief`. Assumes nothing.
use mathlib.Core.Path.{◌≡◌, refl}
use mathlib.Core.Bool.{Bool, true, false}
use mathlib.Core.List.{List, ◌++◌}
use Prim.Native.Nat.{ℕ, suc, ◌+◌, ◌*◌, ◌≤◌, ◌<◌}
use native.Mathlib.Nat.{mod-lt}
use native.Mathlib.Omega.{arith}
use lib.Seq.{take-append-le}
use Rattle.relief.specs.Heights.{height_of}
use Rattle.relief.specs.Peaks.{Key, missing, key, Entry, Wanted, KeyOf, Listed}
use Rattle.relief.specs.Runs.{Stage, Further}
use Rattle.relief.specs.Plane.{Shape, touch_of}
use Rattle.relief.specs.Inner.{Decides}
use Rattle.relief.proofs.Tests.{split, true-not-false, le-or-lt, lt-decides}
use Rattle.relief.proofs.Ways.{way_end, way_step, path-of-way}
use Rattle.relief.proofs.Reach.{way-decides}
use Rattle.relief.proofs.Flats.{Terrain, land-below, climb}
use Rattle.relief.proofs.Keys as Keys
use Rattle.relief.proofs.Passes as Passes
use Rattle.relief.proofs.Lists as Listing
use Rattle.relief.proofs.Survey.{peak-key, survey-list}
use Rattle.relief.proofs.Parents as Parents
use Rattle.relief.proofs.Families.{outline-unique}
use Rattle.relief.proofs.OutlineSurvey.{survey-outline}
use Rattle.relief.proofs.Accounts as Accounts
use Rattle.relief.proofs.Closed as Closing
use Rattle.relief.proofs.Batches as Growing
use Rattle.relief.proofs.Plane as Plane
use Rattle.relief.proofs.Levels.{height_of-level}
use Rattle.relief.proofs.Shapes.{touch-decides, touch-symmetric, stage-further, run-grows, stage-open-changes}
use Rattle.theorems.specs.Claims.{Touching, OfGrid, Handing, OfHanding, Claims}
use Rattle.theorems.proofs.Grids.{marked-follow, pass-can-move, parent-can-change}

abbrev is_yes : {A : Type 0} → Dec A → Bool
is_yes (yes a) = true
is_yes (no n) = false

yes-decides : {A : Type 0} (d : Dec A) → Decides A (is_yes d)
yes-decides (yes a) = record { holds = λ e. a; fails = λ e. true-not-false refl e }
yes-decides (no n) = record { holds = λ e. true-not-false e refl; fails = λ e. n }

pub decided : {A : Type 0} {b : Bool} → Decides A b → Dec A
decided {b = true} d = yes (d.holds refl)
decided {b = false} d = no (d.fails refl)

-- How the cells of a shape touch is symmetric, and told by a test.
abbrev pub shape-touching : Shape → Touching
shape-touching shape = record {
  touch = touch_of shape;
  symmetric = touch-symmetric shape;
  told = λ a b. decided (touch-decides shape a b);
}

touching-terrain : (t : Touching) (level : ℕ → ℕ) (n : ℕ) → ((c : ℕ) → n ≤ c → level c ≡ 0)
    → Terrain t.touch (λ a b. is_yes (t.told a b)) level n
touching-terrain t level n ends =
    record { symmetric = t.symmetric; decides = λ a b. yes-decides (t.told a b); ends = ends }

-- ---- one grid

module _ {touch : ℕ → ℕ → Type 0} {touch? : ℕ → ℕ → Bool} {level : ℕ → ℕ} {n : ℕ}
    (t : Terrain touch touch? level n) where
  wanted-one : (e : Entry) → Listed touch level 0 e → Listed touch level 1 e
  wanted-one e h = record { right = h.right; wanted = go e.key h.right.keyed }
    where
      go : (k : Key) → KeyOf touch level e.cell k → Wanted 1 e.level k
      go missing q = tt
      go (key k c) q =
          let m = Keys.key_below t.symmetric h.right.peak q.0 in
          let s = h.right.height in
          omega arith

  wanted-zero : (e : Entry) → Listed touch level 1 e → Listed touch level 0 e
  wanted-zero e h = record { right = h.right; wanted = go e.key }
    where
      go : (k : Key) → Wanted 0 e.level k
      go missing = tt
      go (key k c) = omega arith

  of-grid : OfGrid touch level
  of-grid = record {
    way-told = λ f a b. decided (way-decides t.decides (λ c. lt-decides f (level c)) n
        (λ c l. land-below t c (omega arith)) a b);
    climbs = λ c l. let (p, q, w) = climb t c l in (p, q, path-of-way level l w);
    key-or-none = λ p q. peak-key t p q;
    key-not-none = λ p k h none. Keys.key-exclusive h none;
    key-unique = λ p k k' h h'. Keys.key-unique h h';
    key_below = λ p k q h.
        let l = Keys.key-land h in
        let m = Keys.key_below t.symmetric q h in
        (l, m, λ b. (omega arith, omega arith));
    key-account = λ p k o l r w In i over under told free.
        Keys.key-account l r w In i (λ a b j s h. stays In k under a b j s h (told b)) free;
    island-bounded = λ p k. (
      λ c w. way_end w,
      λ a b w away s. split (le-or-lt (level b) k) (λ h. h) (λ h. absurd (away (way_step w s h))),
    );
    pass-unique = λ p k c c' h h'. Passes.pass-unique h h';
    pass-exists = λ p k q h. (_, Passes.pass-exists t q h);
    entry-unique = λ e e' h h' s. Listing.entry-unique e e' h h' s;
    list-exists = λ T. (_, survey-list t T);
    zero-lists-one = λ l. (
      λ h. record {
        rising = h.rising;
        sound = λ e m. wanted-one e (h.sound e m);
        complete = λ e m. h.complete e (wanted-zero e m);
      },
      λ h. record {
        rising = h.rising;
        sound = λ e m. wanted-zero e (h.sound e m);
        complete = λ e m. h.complete e (wanted-one e m);
      },
    );
    parent-exists = λ p k q h. Parents.parent-exists t q h;
    parent-unique = λ p q r h h'. Parents.parent-unique t h h';
    parent-none = λ p q none h. Parents.parent-none t none h;
    parent-outranks = λ p q r h. Parents.parent-outranks t r h;
    parent_listed = λ T q e l h. Parents.parent_listed t l h;
    outline-exists = λ T levels. (_, survey-outline t T levels);
    outline-unique = λ T levels x y h h'. outline-unique h h';
    account-true = λ p k path island q h. Accounts.account-key t q h;
    account-one = λ p k k' path path' island island' q h h'. Accounts.account-unique t q h h';
    account-exists = λ p q. Accounts.account-exists t p q;
    own-account = λ p k path island h. (h.account, Accounts.own-distinct t h);
    own-unique = λ p k k' path path' island island' q h h'. Accounts.own-unique t q h h';
  }
    where
      stays : (In : ℕ → Type 0) (k : ℕ) → ((a b : ℕ) → In a → (In b → ⊥) → touch a b → level b ≤ k)
          → (a b : ℕ) → In a → touch a b → k < level b → Dec (In b) → In b
      stays In k under a b j s h (yes y) = y
      stays In k under a b j s h (no none) = let m = under a b j none s in absurd (omega arith)

-- ---- a growing run

module _ (t : Touching) {s s' : Stage} (f : Further t.touch s s') where
  before : Terrain t.touch (λ a b. is_yes (t.told a b)) s.level s.cells
  before = touching-terrain t s.level s.cells f.ends

  after : Terrain t.touch (λ a b. is_yes (t.told a b)) s'.level s'.cells
  after = touching-terrain t s'.level s'.cells f.ends_after

of-handing : (t : Touching) (stage : ℕ → Stage) (columns T : ℕ) (batch : ℕ → List Entry) (rest : List Entry)
    → Handing t.touch stage columns T batch rest → OfHanding t.touch stage columns T batch rest
of-handing t stage columns T batch rest r =
    let told : (a b : ℕ) → Decides (t.touch a b) (is_yes (t.told a b)) = λ a b. yes-decides (t.told a b) in
    record {
      batches-hold = λ l h. Growing.batches-hold t.symmetric told r.grows T batch columns rest l
          r.batches r.ended h;
      batches-once = λ i j e e'. Growing.batches-once t.symmetric told r.grows T batch columns i j e e'
          r.batches;
      rest-once = λ i e e'. Growing.rest-once t.symmetric told r.grows T batch columns i e e' rest
          r.batches r.ended;
      batches-pass = λ l h. Growing.batches-pass t.symmetric told r.grows T batch columns rest l
          r.batches r.ended h;
      rest-pass = λ l h. Growing.rest-pass t.symmetric told r.grows T batch columns rest l
          r.batches r.ended h;
    }

-- ---- all of them

pub claims : Claims
claims = record {
  place-number = λ rows c l. (mod-lt c l, Plane.place-number rows c);
  plane-symmetric = Plane.plane-symmetric;
  plane-irreflexive = Plane.plane-irreflexive;
  plane-told = λ rows a b. decided (Plane.plane-decides rows a b);
  plane-eight = λ rows c. (Plane.around rows c, Plane.plane-eight rows c);
  plane-fence = Plane.plane-fence;
  run-grows = run-grows;
  grid = λ t level n ends. of-grid (touching-terrain t level n ends);
  order-unique = λ P l m h h'. Listing.order-unique l m h h';
  closed-exactly = λ touch s e h. (
    λ c x l w. c.away x w l,
    λ f. record { right = h; away = λ c w l. f c l w },
  );
  closed-stays = λ t s s' f. Closing.closed-stays (before t f) (after t f) f;
  closed-island = λ t s s' f. Closing.closed-island (before t f) (after t f) f;
  closed-further = λ shape columns k heights more e l.
      let t = shape-touching shape in
      let f = stage-further shape columns (columns + k) heights (heights ++ more) (omega arith)
      (take-append-le (columns * shape.rows) heights more l) in
      Closing.closed-stays (before t f) (after t f) f e;
  open-can-change = λ shape columns heights e whole o l.
      let (h, m) = height_of-level (suc e.level) (omega arith) in (
        height_of (suc e.level),
        m,
        omega arith,
        stage-open-changes shape columns heights whole (height_of (suc e.level)) e o (omega arith),
      );
  handing = of-handing;
  pass-can-move = pass-can-move;
  parent-can-change = parent-can-change;
  marked-follow = marked-follow;
}
