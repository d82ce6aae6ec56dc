-- The outline, surveyed: a computing twin of `Family` and `Outline`, and that it tells what they say. The children of a
-- peak are found in reading order, by a test at every cell, and put in the order of their passes by insertion.
--     parent? x q               q is the parent of the peak x
--     sooner?, sort             a list in reading order put in the order of passes; no entries are lost or added
--     survey_tops, survey_children, survey_outline     the tops, the children of a peak, the text
--     survey-outline            the text is the outline
-- Assumes nothing.
use mathlib.Core.Path.{◌≡◌, refl, sym, subst}
use mathlib.Core.Bool.{Bool, true, false, ◌&&◌, ◌||◌}
use mathlib.Core.List.{List, [], ◌∷◌}
use mathlib.Core.Logic.{◌⊎◌, inl, inr}
use Prim.Native.Nat.{ℕ, suc}
use native.Mathlib.Omega.{arith}
use lib.Dec.{eqb, ltb}
use Rattle.relief.specs.Peaks.{Peak, NoKey, Key, missing, key, Entry, floor_of, pass_cell_of, KeyOf, Member, Rising}
use Rattle.relief.specs.Peaks.{InReadingOrder, Listed}
use Rattle.relief.specs.Outline.{Sooner, Falling, InPassOrder, Parent, Child, Top, outline_text, Outline}
use Rattle.relief.specs.Inner.{Decides}
use Rattle.relief.proofs.Tests.{split, true-not-false, eq-decides, lt-decides, and-decides, or-decides}
use Rattle.relief.proofs.Tests.{decides-iff}
use Rattle.relief.proofs.Flats.{Terrain, land-below}
use Rattle.relief.proofs.Keys.{key-exclusive}
use Rattle.relief.proofs.Lists.{rising-member, collect, collect-order}
use Rattle.relief.proofs.Survey.{entry_at, listed?, and-decides-then, entry_at-right, entry_at-only}
use Rattle.relief.proofs.Survey.{listed-decides}
use Rattle.relief.proofs.Parents.{summit, parent-summit, parent-unique, parent-none}
use Rattle.relief.proofs.Families.{sooner-trans, sooner-total}

-- ---- the order of passes, by insertion

abbrev sooner? : Entry → Entry → Bool
sooner? d e =
    ltb (floor_of e.key) (floor_of d.key)
    || (eqb (floor_of d.key) (floor_of e.key)
    && (ltb (pass_cell_of d.key) (pass_cell_of e.key)
    || (eqb (pass_cell_of d.key) (pass_cell_of e.key) && ltb d.cell e.cell)))

sooner-decides : (d e : Entry) → Decides (Sooner d e) (sooner? d e)
sooner-decides d e =
    or-decides (lt-decides _ _)
    (and-decides (eq-decides _ _)
    (or-decides (lt-decides _ _) (and-decides (eq-decides _ _) (lt-decides d.cell e.cell))))

abbrev insert : Entry → List Entry → List Entry
insert x [] = x ∷ []
insert x (y ∷ l) = elim (sooner? x y) [ true ↦ x ∷ y ∷ l | false ↦ y ∷ insert x l ]

abbrev sort : List Entry → List Entry
sort [] = []
sort (x ∷ l) = insert x (sort l)

-- m is the list l and x, in order
record Inserted (x : Entry) (l m : List Entry) : Type 0 where
  falls : Falling m
  has : (e : Entry) → (e ≡ x) ⊎ Member e l → Member e m
  from : (e : Entry) → Member e m → (e ≡ x) ⊎ Member e l

inserted : (x : Entry) (l : List Entry) → Falling l → ((e : Entry) → Member e l → x.cell ≡ e.cell → ⊥)
    → Inserted x l (insert x l)
inserted x [] f other = record { falls = (λ e m. absurd m, tt); has = λ e m. m; from = λ e m. m }
inserted x (y ∷ l) f other =
    go (sooner? x y) (sooner-decides x y) (inserted x l f.1 (λ e m. other e (inr m)))
  where
    go : (b : Bool) → Decides (Sooner x y) b → Inserted x l (insert x l)
        → Inserted x (y ∷ l) (elim b [ true ↦ x ∷ y ∷ l | false ↦ y ∷ insert x l ])
    go true d h =
        let s : Sooner x y = d.holds refl in
        record {
          falls = (λ e m. split m (λ q. subst (Sooner x) (sym q) s) (λ k. sooner-trans x y e s (f.0 e k)), f);
          has = λ e m. m;
          from = λ e m. m;
        }
    go false d h =
        let s : Sooner y x =
        split (sooner-total x y (other y (inl refl))) (λ i. absurd (d.fails refl i)) (λ i. i) in
        record {
          falls = (λ e m. split (h.from e m) (λ q. subst (Sooner y) (sym q) s) (f.0 e), h.falls);
          has = λ e m. split m
              (λ q. inr (h.has e (inl q)))
              (λ k. split k (λ q. inl q) (λ j. inr (h.has e (inr j))));
          from = λ e m. split m
              (λ q. inr (inl q))
              (λ k. split (h.from e k) (λ q. inl q) (λ j. inr (inr j)));
        }

-- m is the list l in order
record Arranged (l m : List Entry) : Type 0 where
  falls : Falling m
  has : (e : Entry) → Member e l → Member e m
  from : (e : Entry) → Member e m → Member e l

arranged : (b : ℕ) (l : List Entry) → Rising b l → Arranged l (sort l)
arranged b [] r = record { falls = tt; has = λ e m. m; from = λ e m. m }
arranged b (x ∷ l) r =
    let h = arranged (suc x.cell) l r.1 in
    let i = inserted x (sort l) h.falls
    (λ e m q. let k = rising-member (suc x.cell) l e r.1 (h.from e m) in omega arith) in
    record {
      falls = i.falls;
      has = λ e m. i.has e (split m (λ q. inl q) (λ k. inr (h.has e k)));
      from = λ e m. split (i.from e m) (λ q. inl q) (λ k. inr (h.from e k));
    }

sort-order : {P : Entry → Type 0} (l : List Entry) → InReadingOrder P l → InPassOrder P (sort l)
sort-order l h =
    let a = arranged 0 l h.rising in
    record {
      falling = a.falls;
      sound = λ e m. h.sound e (a.from e m);
      complete = λ e p. a.has e (h.complete e p);
    }

-- ---- the tests

abbrev keyless? : Key → Bool
keyless? missing = true
keyless? (key k c) = false

module _ (touch? : ℕ → ℕ → Bool) (level : ℕ → ℕ) (n : ℕ) where
  -- the peak x, which has this key, has the parent q
  abbrev under? : ℕ → ℕ → Key → Bool
  under? q x missing = false
  under? q x (key k c) = eqb (summit touch? level n x k) q

  unfoldable pub parent? : ℕ → ℕ → Bool
  parent? x q = under? q x (entry_at touch? level n x).key

  abbrev top? : ℕ → ℕ → Bool
  top? T x = listed? touch? level n T x && keyless? (entry_at touch? level n x).key

  abbrev child? : ℕ → ℕ → ℕ → Bool
  child? T q x = listed? touch? level n T x && parent? x q

  unfoldable pub survey_tops : ℕ → List Entry
  survey_tops T = collect n 0 (top? T) (entry_at touch? level n)

  unfoldable pub survey_children : ℕ → ℕ → List Entry
  survey_children T q = sort (collect n 0 (child? T q) (entry_at touch? level n))

  unfoldable pub survey_outline : ℕ → ℕ → List ℕ
  survey_outline T levels = outline_text (survey_children T) levels (survey_tops T)

-- ---- what they tell

module _ {touch : ℕ → ℕ → Type 0} {touch? : ℕ → ℕ → Bool} {level : ℕ → ℕ} {n : ℕ}
    (t : Terrain touch touch? level n) where
  pub parent-decides : (x q : ℕ) → Peak touch level x → Decides (Parent touch level x q) (parent? touch? level n x q)
  unfolding parent? entry_at
  parent-decides x q p = go (entry_at touch? level n x).key (entry_at-right t x p).keyed
    where
      go : (k : Key) → KeyOf touch level x k → Decides (Parent touch level x q) (under? touch? level n q x k)
      go missing h = record { holds = λ e. true-not-false e refl; fails = λ e i. parent-none t h i }
      go (key k c) h =
          decides-iff
          (λ e. subst (Parent touch level x) e (parent-summit t p h.0))
          (λ i. parent-unique t (parent-summit t p h.0) i)
          (eq-decides (summit touch? level n x k) q)

  top-decides : (T x : ℕ) → Decides (Top touch level T (entry_at touch? level n x)) (top? touch? level n T x)
  unfolding entry_at
  top-decides T x =
      decides-iff
      (λ h. record { listed = h.0; keyless = h.1 })
      (λ h. (h.listed, h.keyless))
      (and-decides-then (listed-decides t T x)
      (λ h. go (entry_at touch? level n x).key h.right.keyed))
    where
      go : (k : Key) → KeyOf touch level x k → Decides (NoKey touch level x) (keyless? k)
      go missing h = record { holds = λ e. h; fails = λ e. true-not-false refl e }
      go (key k c) h = record { holds = λ e. true-not-false e refl; fails = λ e. key-exclusive h.0 }

  child-decides : (T q x : ℕ)
      → Decides (Child touch level T q (entry_at touch? level n x)) (child? touch? level n T q x)
  unfolding entry_at
  child-decides T q x =
      decides-iff
      (λ h. record { listed = h.0; under = h.1 })
      (λ h. (h.listed, h.under))
      (and-decides-then (listed-decides t T x) (λ h. parent-decides x q h.right.peak))

  -- ---- the outline

  -- listed entries that a test tells, in reading order
  told-order : {T : ℕ} (P : Entry → Type 0) (f : ℕ → Bool) → ((x : ℕ) → Decides (P (entry_at touch? level n x)) (f x))
      → ((e : Entry) → P e → Listed touch level T e) → InReadingOrder P (collect n 0 f (entry_at touch? level n))
  unfolding entry_at
  told-order P f told listed =
      collect-order P f (entry_at touch? level n) (λ i. refl) told (λ e h. entry_at-only t e (listed e h).right) n
      (λ e h. land-below t e.cell (listed e h).right.peak.land)

  survey-tops : (T : ℕ) → InReadingOrder (Top touch level T) (survey_tops touch? level n T)
  unfolding survey_tops
  survey-tops T = told-order (Top touch level T) (top? touch? level n T) (top-decides T) (λ e h. h.listed)

  survey-children : (T q : ℕ) → InPassOrder (Child touch level T q) (survey_children touch? level n T q)
  unfolding survey_children
  survey-children T q =
      sort-order (collect n 0 (child? touch? level n T q) (entry_at touch? level n))
      (told-order (Child touch level T q) (child? touch? level n T q) (child-decides T q) (λ e h. h.listed))

  pub survey-outline : (T levels : ℕ) → Outline touch level T levels (survey_outline touch? level n T levels)
  unfolding survey_outline
  survey-outline T levels = record {
    family = record {
      tops = survey_tops touch? level n T;
      children = survey_children touch? level n T;
      tops_right = survey-tops T;
      children_right = survey-children T;
    };
    written = refl;
  }
