-- What the check finds. A peak whose account has the key height k is above k and the best of its island, so where the
-- flood at k + 1 tells that it is not, there is no account with k. Where it is, it is a peak's cell, and the row of the
-- reached cells is its island: an account of it is just that row, and a path that leads out or, for k = 0, none.
--     found-outside, -none             the cell is no peak's
--     found-peak, found-account        it is, and this is no account of it, or the row decides
-- Assumes nothing.
use mathlib.Core.Path.{◌≡◌, sym, subst}
use mathlib.Core.Bool.{Bool, true, false}
use mathlib.Core.List.{List}
use Prim.Native.Nat.{ℕ, ◌≤◌, ◌<◌}
use native.Mathlib.Omega.{arith}
use Rattle.std.proofs.Common.{None, Some}
use Rattle.relief.specs.Peaks.{Peak, Island}
use Rattle.relief.specs.Accounts.{InOrder, Account}
use Rattle.relief.specs.Inner.{Decides, cut, Best}
use Rattle.relief.proofs.Tests.{decides-iff, refuted}
use Rattle.relief.proofs.Levels.{cut_below, cut-behind, cut-equal}
use Rattle.relief.proofs.Flats.{Terrain}
use Rattle.relief.proofs.Keys.{peak-of-best}
use Rattle.relief.proofs.Rows.{order-row-unique}
use Rattle.relief.proofs.Accounts.{account-below, account-best, account-of-best}
use Rattle.area.specs.Area.{level_in}
use Rattle.audit.specs.Audit.{PeakTold, Judges}
use Rattle.audit.specs.Inner.{Crested, Rowed}
use Rattle.audit.proofs.Tops.{behind-same, behind-trans}
use Rattle.flood.proofs.Reached.{reached-region}

-- ---- what is found

pub found-outside : {touch : ℕ → ℕ → Type 0} {s path island : List ℕ} {n p k : ℕ} → n ≤ p
    → Judges touch s s n p k path island None
found-outside {s = s} {n = n} {p = p} l =
    let e = cut-behind n (level_in s) p l in
    record { finds = λ h. let m = h.land in omega arith; behind = behind-same s n }

module _ {touch : ℕ → ℕ → Type 0} {touch? : ℕ → ℕ → Bool} {s t : List ℕ} {n p k : ℕ} {b : Bool}
    (terrain : Terrain touch touch? (cut n (level_in s)) n) (cell : p < n) (h : Crested touch s t n p k b) where
  height : cut n (level_in s) p ≡ level_in s p
  height = cut_below n (level_in s) p cell

  -- the levels that count are the same behind the flood
  same : cut n (level_in t) ≡ cut n (level_in s)
  same = cut-equal n (level_in t) (level_in s) h.front

  -- ---- no crest

  module _ {u : List ℕ} {r : Bool} (i : PeakTold touch t u n p r) where
    peak-behind : Decides (Peak touch (cut n (level_in s)) p) r
    peak-behind = rw same at i.told

    pub found_none : {path island : List ℕ} → r ≡ false → Judges touch s u n p k path island None
    found_none f = record { finds = peak-behind.fails f; behind = behind-trans h.behind i.behind }

    pub found-peak : {path island : List ℕ} → b ≡ false → r ≡ true → Judges touch s u n p k path island (Some false)
    found-peak e f =
        let q = peak-behind.holds f in
        let m = height in
        record {
          finds = (
            q,
            refuted (λ a. let l = account-below terrain q a in
                h.told.fails e (omega arith, account-best terrain l a)),
          );
          behind = behind-trans h.behind i.behind;
        }

  -- ---- a crest

  module _ {u path island : List ℕ} {r : Bool} (e : b ≡ true) (i : Rowed touch t u n p k path island r) where
    above : k < cut n (level_in s) p
    above = let m = height in let l = (h.told.holds e).0 in omega arith

    best : Best touch (cut n (level_in s)) k p
    best = (h.told.holds e).1

    account-decides : Decides (Account touch (cut n (level_in s)) p k path island) r
    account-decides =
        let order = reached-region (h.reached e).1 in
        decides-iff
        (λ (j, (out, none)). account-of-best terrain above best
        (subst (InOrder (Island touch (cut n (level_in s)) p k)) (sym j) order) out none)
        (λ a. (order-row-unique a.isle order, (a.leads, a.none)))
        (rw same at i.told)

    pub found-account : Judges touch s u n p k path island (Some r)
    found-account = record {
      finds = (peak-of-best above best, account-decides);
      behind = behind-trans h.behind i.behind;
    }
