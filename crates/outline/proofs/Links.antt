-- From a listed peak on, the links lead through peaks and passes as many levels down as one likes: a listed peak leads
-- to passes, and each of them to listed peaks again.
--     every-of-all     what follows from a test holds of a list of which the test does
--     threads-linked   a listed peak is linked so many levels down
-- Assumes nothing.
use mathlib.Core.Path.{◌≡◌}
use mathlib.Core.Bool.{Bool, true}
use mathlib.Core.List.{List, [], ◌∷◌}
use Prim.Native.Nat.{ℕ, zero, suc, ◌<◌}
use lib.ListN.{length}
use Rattle.kin.specs.Kin.{passes_in, peaks_in, children_in, All, Threads}
use Rattle.outline.specs.Inner.{Every, Strung, Hung, Linked}

every-of-all : {f : ℕ → Bool} {P : ℕ → Type 0} → ((x : ℕ) → f x ≡ true → P x) → (l : List ℕ) → All f l → Every P l
every-of-all h [] a = tt
every-of-all h (x ∷ l) a = (h x a.0, every-of-all h l a.1)

module _ {s : List ℕ} {n : ℕ} {peak pass : ℕ → Bool} (t : Threads s n peak pass)
    (few : (q : ℕ) → peak q ≡ true → length (children_in s n q) < 4294967296) where
  strung : (x : ℕ) → pass x ≡ true → Strung s n x
  strung x e = let (l, c, a) = t.across x e in record { area = t.area; cell = l; across = c }

  hung : (q : ℕ) → peak q ≡ true → Hung s n q
  hung q p =
      let (l, c, a) = t.down q p in
      record {
        area = t.area;
        cell = l;
        down = c;
        strung = every-of-all strung (passes_in s n q) a;
        few = few q p;
      }

  pub threads-linked : (left q : ℕ) → peak q ≡ true → Linked s n left q
  threads-linked zero q p = hung q p
  threads-linked (suc left) q p = (
    hung q p,
    every-of-all (λ x e. every-of-all (threads-linked left) (peaks_in s n x) (t.across x e).2)
        (passes_in s n q) (t.down q p).2,
  )
