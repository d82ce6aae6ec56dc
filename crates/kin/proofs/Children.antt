-- The entries under the passes of a peak, and those of tops, as lists.
--     under-member, under-stand     an entry is under the passes if it is that of a peak of one of them
--     under-falling                 and they stand in order if the passes and the peaks of each do
--     tops-member, tops-stand, tops-rising     the same of tops
-- Assumes nothing.
use mathlib.Core.Path.{◌≡◌, refl, sym, ap, subst}
use mathlib.Core.Bool.{Bool, true, false, cond}
use mathlib.Core.List.{List, [], ◌∷◌, ◌++◌, map, append-nil}
use mathlib.Core.Logic.{inl, inr}
use Prim.Native.Nat.{ℕ, zero, suc, ◌<◌, zero-le}
use native.Mathlib.Omega.{arith}
use Rattle.relief.specs.Peaks.{Entry, Member, Rising}
use Rattle.relief.specs.Outline.{Sooner, Falling}
use Rattle.relief.specs.Inner.{Better, above, before}
use Rattle.relief.proofs.Tests.{split, below_suc}
use Rattle.area.specs.Area.{level_in}
use Rattle.survey.proofs.Places.{member-front, member_back, member-cases, rising-last}
use Rattle.kin.specs.Kin.{child_entry, top_entry, under_passes, is_top, tops_in}
use Rattle.kin.specs.Inner.{OneOf, Sorted}

falling-append : (l m : List Entry) → Falling l → Falling m → ((d e : Entry) → Member d l → Member e m → Sooner d e)
    → Falling (l ++ m)
falling-append [] m f g h = g
falling-append (x ∷ l) m f g h = (
  λ e k. split (member-cases l m e k) (f.0 e) (h x e (inl refl)),
  falling-append l m f.1 g (λ d e i. h d e (inr i)),
)

-- ---- the peaks of one pass

module _ (level : ℕ → ℕ) where
  module _ (x : ℕ) where
    pass-member : (l : List ℕ) (e : Entry) → Member e (map (child_entry level x) l)
        → (p : ℕ) × OneOf p l × (e ≡ child_entry level x p)
    pass-member [] e m = absurd m
    pass-member (p ∷ l) e (inl q) = (p, inl refl, q)
    pass-member (p ∷ l) e (inr m) = let (r, o, q) = pass-member l e m in (r, inr o, q)

    pass-stand : (l : List ℕ) (p : ℕ) → OneOf p l → Member (child_entry level x p) (map (child_entry level x) l)
    pass-stand [] p o = absurd o
    pass-stand (r ∷ l) p (inl q) = inl (ap (child_entry level x) q)
    pass-stand (r ∷ l) p (inr o) = inr (pass-stand l p o)

    pass-falling : (l : List ℕ) → Sorted ◌<◌ l → Falling (map (child_entry level x) l)
    pass-falling [] f = tt
    pass-falling (p ∷ l) f = (
      λ e m. let (r, o, q) = pass-member l e m in
          subst (Sooner (child_entry level x p)) (sym q) (inr (refl, inr (refl, f.0 r o))),
      pass-falling l f.1,
    )

  -- ---- the peaks of all passes

  sooner-better : {x y p r : ℕ} → Better level x y → Sooner (child_entry level x p) (child_entry level y r)
  sooner-better (above l) = inl l
  sooner-better (before e l) = inr (e, inl l)

  module _ (peaks : ℕ → List ℕ) where
    pub under-member : (l : List ℕ) (e : Entry) → Member e (under_passes level peaks l)
        → (x : ℕ) × (p : ℕ) × OneOf x l × OneOf p (peaks x) × (e ≡ child_entry level x p)
    unfolding under_passes
    under-member [] e m = absurd m
    under-member (x ∷ l) e m =
        let rest = under-member l e in
        split (member-cases (map (child_entry level x) (peaks x)) (under_passes level peaks l) e m)
        (λ h. let (p, o, q) = pass-member x (peaks x) e h in (x, p, inl refl, o, q))
        (λ h. let (y, p, i, o, q) = rest h in (y, p, inr i, o, q))

    pub under-stand : (l : List ℕ) (x p : ℕ) → OneOf x l → OneOf p (peaks x)
        → Member (child_entry level x p) (under_passes level peaks l)
    unfolding under_passes
    under-stand [] x p i o = absurd i
    under-stand (y ∷ l) x p (inl q) o =
        member-front (map (child_entry level y) (peaks y)) (under_passes level peaks l) (child_entry level x p)
        (subst (λ (z : ℕ). Member (child_entry level x p) (map (child_entry level z) (peaks z))) q
        (pass-stand x (peaks x) p o))
    under-stand (y ∷ l) x p (inr i) o =
        member_back (map (child_entry level y) (peaks y)) (under_passes level peaks l) (child_entry level x p)
        (under-stand l x p i o)

    pub under-falling : (l : List ℕ) → Sorted (Better level) l → ((x : ℕ) → OneOf x l → Sorted ◌<◌ (peaks x))
        → Falling (under_passes level peaks l)
    unfolding under_passes
    under-falling [] f g = tt
    under-falling (x ∷ l) f g =
        falling-append (map (child_entry level x) (peaks x)) (under_passes level peaks l)
        (pass-falling x (peaks x) (g x (inl refl))) (under-falling l f.1 (λ y o. g y (inr o)))
        (λ d e h k.
        let (p, o, q) = pass-member x (peaks x) d h in
        let (y, r, i, j, q') = under-member l e k in
        let b : Sooner (child_entry level x p) (child_entry level y r) = sooner-better (f.0 y i) in
        rw (q, q') b)

-- ---- tops

module _ (t : List ℕ) (n : ℕ) where
  abbrev entry : ℕ → Entry
  entry c = top_entry (level_in t) c

  last-member : (b : Bool) (c : ℕ) (e : Entry) → Member e (cond b (entry c ∷ []) []) → (b ≡ true) × (e ≡ entry c)
  last-member true c e (inl q) = (refl, q)
  last-member true c e (inr m) = absurd m
  last-member false c e m = absurd m

  pub tops-member : (k : ℕ) (e : Entry) → Member e (tops_in t n k)
      → (c : ℕ) × (c < k) × (is_top t n c ≡ true) × (e ≡ entry c)
  unfolding tops_in
  tops-member zero e m = absurd m
  tops-member (suc k) e m =
      let rest = tops-member k e in
      split (member-cases (tops_in t n k) (cond (is_top t n k) (entry k ∷ []) []) e m)
      (λ h. let (c, l, f, q) = rest h in (c, omega arith, f, q))
      (λ h. let (f, q) = last-member (is_top t n k) k e h in (k, omega arith, f, q))

  pub tops-stand : (k c : ℕ) → c < k → is_top t n c ≡ true → Member (entry c) (tops_in t n k)
  unfolding tops_in
  tops-stand zero c l f = absurd (omega arith)
  tops-stand (suc k) c l f =
      let rest = tops-stand k c in
      split (below_suc c k l)
      (λ q. member_back (tops_in t n k) (cond (is_top t n k) (entry k ∷ []) []) (entry c) (last q))
      (λ h. member-front (tops_in t n k) (cond (is_top t n k) (entry k ∷ []) []) (entry c) (rest h f))
    where
      last : c ≡ k → Member (entry c) (cond (is_top t n k) (entry k ∷ []) [])
      last q = let g : is_top t n k ≡ true = subst (λ (d : ℕ). is_top t n d ≡ true) q f in simp g (inl (ap entry q))

  pub tops-rising : (k : ℕ) → Rising 0 (tops_in t n k)
  unfolding tops_in
  tops-rising zero = tt
  tops-rising (suc k) = go (is_top t n k) (tops-rising k)
    where
      go : (b : Bool) → Rising 0 (tops_in t n k) → Rising 0 (tops_in t n k ++ cond b (entry k ∷ []) [])
      go true r = rising-last 0 (tops_in t n k) (entry k) r zero-le (λ e m.
          let (c, l, f, q) = tops-member k e m in subst (λ (d : Entry). d.cell < k) (sym q) l)
      go false r = subst (Rising 0) (sym (append-nil (tops_in t n k))) r
