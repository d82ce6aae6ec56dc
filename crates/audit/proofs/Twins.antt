-- What outranks a peak p at its own height: a cell e on the flat of an earlier peak. Let q be the best cell that e
-- reaches at that height. Where q is higher, no peak has e on its flat, since that flat would hold all that e reaches.
-- Where q is not, it is the cell of a peak that has e on its flat; and any other peak that has is in the region too, so
-- it is no better than q, and not before it.
--     outranks-lower             a lower cell does not outrank
--     outranks-none, -decides    whether a cell as high does, by q
-- Assumes nothing.
use mathlib.Core.Path.{◌≡◌}
use Prim.Native.Nat.{ℕ, ◌-◌, ◌≤◌, ◌<◌}
use native.Mathlib.Omega.{arith}
use lib.Dec.{ltb}
use borrow.Author.Tests.{ltb-true, ltb-false}
use Rattle.relief.specs.Peaks.{Flat, Peak, Outranks, higher, twin}
use Rattle.relief.specs.Outline.{Region}
use Rattle.relief.specs.Inner.{Decides, before}
use Rattle.relief.proofs.Ways.{way_end, way-trans, way-mono, way-sym}
use Rattle.relief.proofs.Flats.{flat-level, peak-keeps}
use Rattle.relief.proofs.Keys.{peak-of-best}
use Rattle.relief.proofs.Parents.{BestOf}

module _ {touch : ℕ → ℕ → Type 0} {level : ℕ → ℕ} where
  pub outranks-lower : {p e : ℕ} → level e < level p → Outranks touch level p e → ⊥
  outranks-lower l (higher m) = omega arith
  outranks-lower {p} {e} l (twin q r i m v) = let f : level e ≡ level q = way_end v in omega arith

  module _ {p e low q : ℕ} (own : low ≡ level p) (here : low ≡ level e) (w : Region touch level e low q)
      (best : BestOf touch level e low q) where
    -- the flat of a peak that holds e holds all that e reaches at its height
    pub outranks-none : low < level q → Outranks touch level p e → ⊥
    outranks-none l (higher m) = omega arith
    outranks-none l (twin q' r i m v) =
        let f : level e ≡ level q' = way_end v in
        let g : level q ≡ level q' =
        way_end (peak-keeps r (way-trans (flat-level v) (way-mono (λ d h. omega arith) w))) in
        omega arith

    pub outranks-decides : ((a b : ℕ) → touch a b → touch b a) → 0 < low → level q ≤ low
        → Decides (Outranks touch level p e) (ltb q p)
    outranks-decides symmetric land l =
        let m : low ≤ level q = way_end w in
        let peak : Peak touch level q =
        peak-of-best {k = low - 1} (omega arith) (λ d v b. best d (way-trans w (way-mono (λ x h. omega arith) v)) b) in
        let flat : Flat touch level q e = peak-keeps peak (way-mono (λ d h. omega arith) (way-sym symmetric w)) in
        record {
          holds = λ h. twin q peak (omega arith) (ltb-true q p h) flat;
          fails = λ h o. later m (ltb-false q p h) o;
        }
      where
        later : low ≤ level q → p ≤ q → Outranks touch level p e → ⊥
        later k h (higher m) = omega arith
        later k h (twin q' r i m v) =
            best q' (way-mono (λ d n. omega arith) (way-sym symmetric (flat-level v)))
            (before (omega arith) (omega arith))
