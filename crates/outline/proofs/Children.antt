-- The peaks under a peak, counted pass by pass.
--     Counting s n q count rest    the count and the peaks of the other passes are all peaks under q
--     counting-turn, counting-done                    its laws
-- Assumes nothing.
use mathlib.Core.Path.{◌≡◌, refl, ap, ◌∙◌}
use mathlib.Core.List.{List, [], ◌∷◌, map}
use Prim.Native.Nat.{ℕ, ◌+◌}
use native.Mathlib.Omega.{arith}
use lib.ListN.{length, length-append, length-map}
use Rattle.area.specs.Area.{level_in}
use Rattle.kin.specs.Kin.{peaks_in, child_entry, under_passes, children_in}
use Rattle.outline.specs.Inner.{Every, Strung}

pub record Counting (s : List ℕ) (n q count : ℕ) (rest : List ℕ) : Type 0 where
  pub strung : Every (Strung s n) rest
  pub all : count + length (under_passes (level_in s) (peaks_in s n) rest) ≡ length (children_in s n q)

under-length : (level : ℕ → ℕ) (peaks : ℕ → List ℕ) (x : ℕ) (l : List ℕ)
    → length (under_passes level peaks (x ∷ l)) ≡ length (peaks x) + length (under_passes level peaks l)
unfolding under_passes
under-length level peaks x l =
    length-append (map (child_entry level x) (peaks x)) (under_passes level peaks l)
    ∙ ap (λ (k : ℕ). k + length (under_passes level peaks l)) (length-map (peaks x) (child_entry level x))

none-length : (level : ℕ → ℕ) (peaks : ℕ → List ℕ) → length (under_passes level peaks []) ≡ 0
unfolding under_passes
none-length level peaks = refl

module _ {s : List ℕ} {n q : ℕ} where
  module _ {count : ℕ} {rest : List ℕ} (g : Counting s n q count rest) where
    pub counting-done : rest ≡ [] → count ≡ length (children_in s n q)
    counting-done e =
        let h = rw e at g.all in omega (arith, h, none-length (level_in s) (peaks_in s n))

    module _ {x : ℕ} {tail : List ℕ} (e : rest ≡ x ∷ tail) where
      pub counting-turn : {more : ℕ} → more ≡ length (peaks_in s n x) → Counting s n q (count + more) tail
      counting-turn m =
          let h = rw e at g in
          record {
            strung = h.strung.1;
            all = omega (arith, h.all, under-length (level_in s) (peaks_in s n) x tail);
          }
