-- Passes and their upper peaks, as a survey that notes the tops of regions tells them.
--     hangs-slope      a pass is no peak: it touches an island, which is higher
--     hangs-upper      so the top of its region is noted, and is the cell of a listed peak, ..
--     hangs-child      .. under which the peaks of the pass are children
--     child-hangs      and every child hangs at such a pass
--     root-top, top-root     tops are the roots
--     uppers-hanging   what hanging the peaks asks
-- Assumes nothing.
use mathlib.Core.Path.{◌≡◌, refl, sym, ◌∙◌, ap, subst}
use mathlib.Core.Bool.{Bool, true, false}
use mathlib.Core.List.{List}
use Prim.Native.Nat.{ℕ, ◌<◌}
use native.Mathlib.Omega.{arith}
use lib.Dec.{eqb}
use Rattle.relief.specs.Peaks.{alone, onward, Peak, KeyHeight, PassCell, Entry, Listed}
use Rattle.relief.specs.Outline.{Region, Parent, Child, Top}
use Rattle.relief.specs.Inner.{cut}
use Rattle.relief.proofs.Tests.{split, test, declines, passes, eq-decides}
use Rattle.relief.proofs.Levels.{cut_below, cut-behind}
use Rattle.relief.proofs.Ways.{way_end}
use Rattle.relief.proofs.Flats.{Terrain}
use Rattle.relief.proofs.Keys.{key-land, key-exclusive}
use Rattle.relief.proofs.Parents.{parent-of-pass, parent-unique, parent-none, parent_listed}
use Rattle.area.specs.Area.{level_in, parent_in, pass_of}
use Rattle.sweep.specs.Sweep.{RegionTop, Topped, noted, highest}
use Rattle.survey.specs.Answers.{entry_in, TopsNoted}
use Rattle.survey.proofs.CellKinds.{entry-root, entry-hung, entry-cell}
use Rattle.survey.proofs.Answers.{Settled, whole-told, entry-only}
use Rattle.kin.specs.Kin.{child_entry, top_entry}
use Rattle.kin.specs.Inner.{listed, Hangs, Hanging}
use Rattle.kin.proofs.ListedCells.{listed-land, listed-root, listed-key}

module _ {touch : ℕ → ℕ → Type 0} {touch? : ℕ → ℕ → Bool} {s : List ℕ} {n m : ℕ}
    (ter : Terrain touch touch? (cut n (level_in s)) n) (w : TopsNoted touch s n m) where
  abbrev L : ℕ → ℕ
  L = cut n (level_in s)

  L-here : (c : ℕ) → c < n → L c ≡ level_in s c
  L-here c l = cut_below n (level_in s) c l

  settled : Settled touch L n n s n
  settled = record {
    ends = cut-behind n (level_in s);
    same = λ c l. sym (L-here c l);
    surveyed = w.surveyed;
    held = λ c l m. w.passes c l (let e = L-here c l in omega arith);
  }

  module _ (T : ℕ) where
    -- a listed entry is that of a cell which the work area calls listed
    listed-told : (e : Entry) → Listed touch L T e
        → (e.cell < n) × (listed s n T e.cell ≡ true) × (e ≡ entry_in s n e.cell)
    listed-told e h =
        let (l, q) = entry-only settled e h.right in
        (l, passes (whole-told settled T e.cell l) (subst (Listed touch L T) q h), q)

    pub upper-listed : {q : ℕ} {e : Entry} → Child touch L T q e → (q < n) × (listed s n T q ≡ true)
    upper-listed c =
        let (d, f, l) = parent_listed ter c.listed c.under in
        let (b, t, g) = listed-told d l in
        (subst (λ (c : ℕ). c < n) f b, subst (λ (c : ℕ). listed s n T c ≡ true) f t)

    -- a listed peak that is no root hangs at its pass
    listed-hangs : (e : Entry) → Listed touch L T e → (parent_in s n e.cell ≡ e.cell → ⊥)
        → Hangs s n T (pass_of s n e.cell) e.cell
    listed-hangs e h d = let (l, t, f) = listed-told e h in record { cell = l; peak = t; keyed = d; pass = refl }

    -- ---- a peak at its pass

    module _ {x d : ℕ} (h : Hangs s n T x d) where
      land : 0 < level_in s d
      land = listed-land s n T d h.peak

      pub pass_below : x < n
      pass_below = subst (λ (z : ℕ). z < n) h.pass (w.passes d h.cell land)

      keyed : Peak touch L d × KeyHeight touch L d (L x) × PassCell touch L d (L x) x
      keyed =
          let e = L-here d h.cell in
          let f = L-here x pass_below in
          let k = listed-key s n T d h.peak h.keyed in
          let g = ap L h.pass in
          let i = ap (level_in s) h.pass in
          let (p, o, q, z) = w.surveyed.keyed d h.cell (let l = land in omega arith) h.keyed (omega arith) in (
            p,
            subst (λ (y : ℕ). KeyHeight touch L d (L y)) h.pass o,
            subst (λ (y : ℕ). PassCell touch L d (L y) y) h.pass q,
          )

      pub pass-land : 0 < level_in s x
      pass-land = let e = L-here x pass_below in let l = key-land keyed.1 in omega arith

      -- the island at the pass is higher
      shore-higher : L x < L keyed.2.shore
      shore-higher = way_end keyed.2.inside

      pub hangs-slope : listed s n T x ≡ false
      hangs-slope = declines (whole-told settled T x pass_below) (λ p.
          let q = subst (Peak touch L) (entry-cell s n x) p.right.peak in
          let l = q.top x keyed.2.shore (alone refl) (ter.symmetric keyed.2.shore x keyed.2.touches) in
          let g = shore-higher in
          omega arith)

      region-top : RegionTop touch L x (pass_of s n x)
      region-top = go (w.topped x pass_below pass-land)
        where
          go : Topped touch L x (pass_of s n x) → RegionTop touch L x (pass_of s n x)
          go (noted l r) = r
          go (highest f) =
              let g = shore-higher in
              let v : Region touch L x (L x) keyed.2.shore =
              onward {a = x} (omega arith) (ter.symmetric keyed.2.shore x keyed.2.touches)
              (alone {a = keyed.2.shore} (omega arith)) in
              let l = f keyed.2.shore v in
              absurd (omega arith)

      parent : Parent touch L d (pass_of s n x)
      parent =
          parent-of-pass ter keyed.0 keyed.1 keyed.2 region-top.inside region-top.best

      entry-told : entry_in s n d ≡ child_entry (level_in s) x d
      entry-told =
          entry-hung s n d h.keyed
          ∙ ap (λ (y : ℕ). child_entry (level_in s) y d) h.pass

      pub hangs-child : Child touch L T (pass_of s n x) (child_entry (level_in s) x d)
      hangs-child = record {
        listed = subst (Listed touch L T) entry-told ((whole-told settled T d h.cell).holds h.peak);
        under = parent;
      }

      pub hangs-upper : (pass_of s n x < n) × (listed s n T (pass_of s n x) ≡ true)
      hangs-upper = upper-listed hangs-child

    -- ---- a child at its pass

    pub child-hangs : {q : ℕ} {e : Entry} → Child touch L T q e
        → (x : ℕ) × Hangs s n T x e.cell × (pass_of s n x ≡ q) × (e ≡ child_entry (level_in s) x e.cell)
    child-hangs {q} {e} c =
        let (l, t, f) = listed-told e c.listed in
        let k = L-here e.cell l in
        let d = listed-land s n T e.cell t in
        let h = listed-hangs e c.listed
        (λ r. parent-none ter (w.surveyed.top e.cell l (omega arith) r).1 c.under) in
        (pass_of s n e.cell, h, parent-unique ter (parent h) c.under, f ∙ entry-told h)

    -- ---- tops

    pub root-top : (c : ℕ) → c < n → 0 < level_in s c → parent_in s n c ≡ c → Top touch L T (top_entry (level_in s) c)
    root-top c l k e = record {
      listed = subst (Listed touch L T) (entry-root s n c e)
          ((whole-told settled T c l).holds (listed-root s n T c k e));
      keyless = (w.surveyed.top c l (let f = L-here c l in omega arith) e).1;
    }

    pub top-root : (e : Entry) → Top touch L T e
        → (e.cell < n) × (0 < level_in s e.cell) × (parent_in s n e.cell ≡ e.cell)
        × (e ≡ top_entry (level_in s) e.cell)
    top-root e h =
        let (l, t, f) = listed-told e h.listed in
        let r : parent_in s n e.cell ≡ e.cell =
        split (test (eqb (parent_in s n e.cell) e.cell))
        (eq-decides (parent_in s n e.cell) e.cell).holds
        (λ g. absurd (key-exclusive
        (keyed (listed-hangs e h.listed ((eq-decides (parent_in s n e.cell) e.cell).fails g))).1
        h.keyless)) in
        (l, listed-land s n T e.cell t, r, f ∙ entry-root s n e.cell r)

    pub uppers-hanging : Hanging s n T
    uppers-hanging = record {
      area = w.area;
      inside = w.inside;
      passes = w.passes;
      slopes = λ x d h. (pass-land h, hangs-slope h);
    }
