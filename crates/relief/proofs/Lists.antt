-- Lists in reading order: two that hold the same entries are equal, and a test at every cell makes one.
--     entry-unique      a peak has one entry
--     entry-floor, entry-best    its key height is below it, and nothing on its island is better
--     alike-*           entries that are the same but for the pass cell
--     sorted-equal      two lists in one order with the same members are equal
--     order-unique      two lists in reading order of the same entries are equal
--     collect           the entries of the cells that pass a test, in reading order
--     collect-order     and that they are a list in reading order
-- Assumes nothing.
use mathlib.Core.Path.{◌≡◌, refl, sym, ◌∙◌, ap, subst}
use mathlib.Core.Bool.{Bool, true, false}
use mathlib.Core.List.{List, [], ◌∷◌}
use mathlib.Core.Logic.{◌⊎◌, inl, inr}
use Prim.Native.Nat.{ℕ, zero, suc, ◌+◌, ◌≤◌, ◌<◌, zero-le}
use native.Mathlib.Omega.{arith}
use Rattle.relief.specs.Peaks.{Key, missing, key, Entry, floor_of, Alike, KeyOf, PeakEntry, PassCell, Member}
use Rattle.relief.specs.Peaks.{Wanted, Rising, InReadingOrder}
use Rattle.relief.specs.Inner.{Decides, Best}
use Rattle.relief.proofs.Tests.{split, below_suc}
use Rattle.relief.proofs.Flats.{Terrain}
use Rattle.relief.proofs.Keys.{key-unique, key-exclusive, key-land, key_below, best-of-key}
use Rattle.relief.proofs.{Keys.best-of-none, Passes.pass-unique}

-- ---- a peak has one entry

module _ (touch : ℕ → ℕ → Type 0) (level : ℕ → ℕ) where
  key_of-unique : (p : ℕ) (k k' : Key) → KeyOf touch level p k → KeyOf touch level p k' → k ≡ k'
  key_of-unique p missing missing h h' = refl
  key_of-unique p missing (key k c) h h' = absurd (key-exclusive h'.0 h)
  key_of-unique p (key k c) missing h h' = absurd (key-exclusive h.0 h')
  key_of-unique p (key k c) (key k' c') h h' =
      let e : k ≡ k' = key-unique h.0 h'.0 in
      let f : c ≡ c' = pass-unique h.1 (subst (λ (j : ℕ). PassCell touch level p j c') (sym e) h'.1) in
      cc

module _ {touch : ℕ → ℕ → Type 0} {level : ℕ → ℕ} where
  pub entry-unique : (e e' : Entry) → PeakEntry touch level e → PeakEntry touch level e' → e.cell ≡ e'.cell → e ≡ e'
  entry-unique e e' h h' s =
      let l : e.level ≡ e'.level = sym h.height ∙ ap level s ∙ h'.height in
      let k : e.key ≡ e'.key =
      key_of-unique touch level e.cell e.key e'.key h.keyed
      (subst (λ (c : ℕ). KeyOf touch level c e'.key) (sym s) h'.keyed) in
      λ i. record { cell = s i; level = l i; key = k i }

module _ {touch : ℕ → ℕ → Type 0} {touch? : ℕ → ℕ → Bool} {level : ℕ → ℕ} {n : ℕ}
    (t : Terrain touch touch? level n) where
  pub entry-floor : (e : Entry) → PeakEntry touch level e → floor_of e.key < level e.cell
  entry-floor e h = go e.key h.keyed
    where
      go : (k : Key) → KeyOf touch level e.cell k → floor_of k < level e.cell
      go missing n = h.peak.land
      go (key k c) n = key_below t.symmetric h.peak n.0

  pub entry-best : (e : Entry) → PeakEntry touch level e → Best touch level (floor_of e.key) e.cell
  entry-best e h = go e.key h.keyed
    where
      go : (k : Key) → KeyOf touch level e.cell k → Best touch level (floor_of k) e.cell
      go missing n = best-of-none t h.peak n
      go (key k c) n = best-of-key t h.peak n.0

-- ---- entries that are alike

pub alike_refl : (e : Entry) → Alike e e
alike_refl e = record { cell = refl; level = refl; floor = refl }

pub alike-sym : {d e : Entry} → Alike d e → Alike e d
alike-sym h = record { cell = sym h.cell; level = sym h.level; floor = sym h.floor }

pub alike-trans : {c d e : Entry} → Alike c d → Alike d e → Alike c e
alike-trans h i = record { cell = h.cell ∙ i.cell; level = h.level ∙ i.level; floor = h.floor ∙ i.floor }

-- of entries that are alike both are wanted or none is, for a key height is above 0
pub wanted-alike : {touch : ℕ → ℕ → Type 0} {level level' : ℕ → ℕ} (T : ℕ) (d e : Entry) → Alike d e
    → PeakEntry touch level d → PeakEntry touch level' e → Wanted T e.level e.key → Wanted T d.level d.key
wanted-alike {touch} {level} {level'} T d e a r r' = go d.key e.key r.keyed r'.keyed a.floor
  where
    go : (k k' : Key) → KeyOf touch level d.cell k → KeyOf touch level' e.cell k' → floor_of k ≡ floor_of k'
        → Wanted T e.level k' → Wanted T d.level k
    go missing k' h h' f w = tt
    go (key k c) missing h h' f w = let l = key-land h.0 in absurd (omega arith)
    go (key k c) (key k' c') h h' f w = let l = a.level in omega arith

-- ---- two lists of the same entries

-- each entry stands in the order R before those behind it
abbrev pub Sorted : (Entry → Entry → Type 0) → List Entry → Type 0
Sorted R [] = Unit {0}
Sorted R (x ∷ l) = ((e : Entry) → Member e l → R x e) × Sorted R l

pub sorted-equal : {R : Entry → Entry → Type 0} → ((d e : Entry) → R d e → R e d → ⊥)
    → (l m : List Entry) → Sorted R l → Sorted R m
    → ((e : Entry) → Member e l → Member e m) → ((e : Entry) → Member e m → Member e l)
    → l ≡ m
sorted-equal asym [] [] r s f g = refl
sorted-equal asym [] (y ∷ m) r s f g = absurd (g y (inl refl))
sorted-equal asym (x ∷ l) [] r s f g = absurd (f x (inl refl))
sorted-equal {R} asym (x ∷ l) (y ∷ m) r s f g =
    tails (heads (f x (inl refl)) (g y (inl refl))) (sorted-equal asym l m r.1 s.1)
  where
    heads : (x ≡ y) ⊎ Member x m → (y ≡ x) ⊎ Member y l → x ≡ y
    heads (inl e) q = e
    heads (inr h) (inl e) = sym e
    heads (inr h) (inr k) = absurd (asym x y (r.0 y k) (s.0 x h))

    tails : x ≡ y
        → (((e : Entry) → Member e l → Member e m) → ((e : Entry) → Member e m → Member e l) → l ≡ m)
        → x ∷ l ≡ y ∷ m
    tails e rest =
        let t : l ≡ m = rest
        (λ z h. split (f z (inr h)) (λ k. let i = subst (R x) (k ∙ sym e) (r.0 z h) in absurd (asym x x i i)) (λ k. k))
        (λ z h. split (g z (inr h)) (λ k. let i = subst (R y) (k ∙ e) (s.0 z h) in absurd (asym y y i i)) (λ k. k)) in
        cc

pub rising-member : (b : ℕ) (l : List Entry) (e : Entry) → Rising b l → Member e l → b ≤ e.cell
rising-member b [] e r m = absurd m
rising-member b (x ∷ l) e r (inl h) =
    let s : e.cell ≡ x.cell = ap (λ (y : Entry). y.cell) h in let k = r.0 in omega arith
rising-member b (x ∷ l) e r (inr m) = let h = rising-member (suc x.cell) l e r.1 m in let k = r.0 in omega arith

rising-sorted : (b : ℕ) (l : List Entry) → Rising b l → Sorted (λ d e. d.cell < e.cell) l
rising-sorted b [] r = tt
rising-sorted b (x ∷ l) r =
    (λ e m. rising-member (suc x.cell) l e r.1 m, rising-sorted (suc x.cell) l r.1)

pub order-unique : {P : Entry → Type 0} (l m : List Entry) → InReadingOrder P l → InReadingOrder P m → l ≡ m
order-unique l m h h' =
    sorted-equal (λ d e i j. omega arith) l m (rising-sorted 0 l h.rising) (rising-sorted 0 m h'.rising)
    (λ e k. h'.complete e (h.sound e k)) (λ e k. h.complete e (h'.sound e k))

-- ---- a list from a test at every cell

abbrev pub collect : ℕ → ℕ → (ℕ → Bool) → (ℕ → Entry) → List Entry
collect zero i f g = []
collect (suc k) i f g = elim (f i) [ true ↦ g i ∷ collect k (suc i) f g | false ↦ collect k (suc i) f g ]

module _ (P : Entry → Type 0) (f : ℕ → Bool) (g : ℕ → Entry)
    (at : (i : ℕ) → (g i).cell ≡ i) (told : (i : ℕ) → Decides (P (g i)) (f i))
    (only : (e : Entry) → P e → e ≡ g e.cell) where
  record Collected (k i : ℕ) (l : List Entry) : Type 0 where
    rises : Rising i l
    right : (e : Entry) → Member e l → P e
    all : (e : Entry) → P e → i ≤ e.cell → e.cell < i + k → Member e l

  rising_down : (b : ℕ) (l : List Entry) → Rising (suc b) l → Rising b l
  rising_down b [] r = tt
  rising_down b (x ∷ l) r = let h = r.0 in (omega arith, r.1)

  collected : (k i : ℕ) → Collected k i (collect k i f g)
  collected zero i = record { rises = tt; right = λ e m. absurd m; all = λ e p l h. absurd (omega arith) }
  collected (suc k) i = go (f i) (told i) (collected k (suc i))
    where
      go : (b : Bool) → Decides (P (g i)) b → Collected k (suc i) (collect k (suc i) f g)
          → Collected (suc k) i (elim b [ true ↦ g i ∷ collect k (suc i) f g | false ↦ collect k (suc i) f g ])
      go true d h = record {
        rises = (
          let e = at i in omega arith,
          subst (λ (j : ℕ). Rising (suc j) (collect k (suc i) f g))
              (sym (at i)) h.rises,
        );
        right = λ e m. split m (λ q. subst P (sym q) (d.holds refl)) (h.right e);
        all = λ e p l m. split (below_suc i e.cell (omega arith))
            (λ q. inl (only e p ∙ ap g (sym q)))
            (λ q. inr (h.all e p q (omega arith)));
      }
      go false d h = record {
        rises = rising_down i (collect k (suc i) f g) h.rises;
        right = h.right;
        all = λ e p l m. split (below_suc i e.cell (omega arith))
            (λ q. absurd (d.fails refl (subst P (only e p ∙ ap g (sym q)) p)))
            (λ q. h.all e p q (omega arith));
      }

  pub collect-order : (n : ℕ) → ((e : Entry) → P e → e.cell < n) → InReadingOrder P (collect n 0 f g)
  collect-order n b =
      let h = collected n 0 in
      record {
        rising = h.rises;
        sound = h.right;
        complete = λ e p. h.all e p zero-le (let l = b e p in omega arith);
      }
