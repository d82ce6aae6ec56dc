-- Laws of chains and rows.
--     chain_same       a chain stays where the links of its cells do
--     walk-chain       walking a chain finds its cells
--     Walked           what a row says of the list that is walked
--     row-none         where no cell passes, a link that is no cell is a row
--     row_same         a row stays where the links of its cells do
--     row_more         one cell put before a row
--     row_walked       walking a row finds its cells
--     all_of           a test that holds of each cell of a list
--     sorted-mono      a list in one order is in another, if that is so of any two of its cells
-- Assumes nothing.
use mathlib.Core.Bool.{Bool, true}
use mathlib.Core.Path.{◌≡◌, refl, sym, ap, subst}
use mathlib.Core.List.{List, [], ◌∷◌}
use mathlib.Core.Logic.{◌⊎◌, inl, inr}
use Prim.Native.Nat.{ℕ, zero, suc, ◌≤◌, ◌<◌, zero-le}
use native.Mathlib.Nat.{not-suc-le-zero}
use native.Mathlib.Omega.{arith}
use lib.ListN.{length}
use borrow.Author.Tests.{lt-ltb, le-ltb}
use Rattle.relief.proofs.Tests.{split}
use Rattle.kin.specs.Kin.{Chain, end, link, walk, All}
use Rattle.kin.specs.Inner.{OneOf, Sorted, Row}

-- ---- chains

pub chain_same : {next next' : ℕ → ℕ} {n c : ℕ} {l : List ℕ} → Chain next n c l
    → ((d : ℕ) → OneOf d l → next' d ≡ next d) → Chain next' n c l
chain_same (end h) f = end h
chain_same {next} {next'} {n} (link {c} {l} h w) f =
    link h
    (subst (λ (d : ℕ). Chain next' n d l) (sym (f c (inl refl))) (chain_same w (λ d o. f d (inr o))))

pub walk-chain : {next : ℕ → ℕ} {n c : ℕ} {l : List ℕ} (most : ℕ) → Chain next n c l → length l ≤ most
    → walk next n most c ≡ l
unfolding walk
walk-chain zero (end h) f = refl
walk-chain zero (link h w) f = absurd (not-suc-le-zero f)
walk-chain {n = n} (suc most) (end {c} h) f = simp (le-ltb c n h)
walk-chain {n = n} (suc most) (link {c} {l} h w) f =
    let rest = walk-chain most w (omega arith) in simp (lt-ltb c n h) (ap (λ (k : List ℕ). c ∷ k) rest)

-- a link that is no cell leads nowhere
pub chain-none : {next : ℕ → ℕ} {n c : ℕ} {l : List ℕ} → Chain next n c l → n ≤ c → (d : ℕ) → OneOf d l → ⊥
chain-none (end h) k d o = o
chain-none (link h w) k d o = omega arith

-- ---- rows

pub record Walked (next : ℕ → ℕ) (n first : ℕ) (R : ℕ → ℕ → Type 0) (P : ℕ → Type 0) (l : List ℕ) : Type 0 where
  pub chain : Chain next n first l
  pub sorted : Sorted R l
  pub sound : (c : ℕ) → OneOf c l → P c
  pub complete : (c : ℕ) → P c → OneOf c l

pub row_walked : {next : ℕ → ℕ} {n first : ℕ} {R : ℕ → ℕ → Type 0} {P : ℕ → Type 0} {most : ℕ}
    → Row next n first R P most → most ≤ n → Walked next n first R P (walk next n n first)
row_walked {next} {n} {first} {R} {P} r l =
    subst (Walked next n first R P) (sym (walk-chain n r.chain (let f = r.few in omega arith))) (record {
      chain = r.chain;
      sorted = r.sorted;
      sound = r.sound;
      complete = r.complete;
    })

pub row-none : {next : ℕ → ℕ} {n first : ℕ} {R : ℕ → ℕ → Type 0} {P : ℕ → Type 0} {most : ℕ} → n ≤ first
    → ((c : ℕ) → P c → ⊥) → Row next n first R P most
row-none h none = record {
  cells = [];
  chain = end h;
  few = zero-le;
  sorted = tt;
  sound = λ c o. absurd o;
  complete = λ c p. none c p;
}

module _ {next next' : ℕ → ℕ} {n first : ℕ} {R : ℕ → ℕ → Type 0} {P : ℕ → Type 0} {most : ℕ}
    (r : Row next n first R P most) (same : (d : ℕ) → P d → next' d ≡ next d) where
  chain-kept : Chain next' n first r.cells
  chain-kept = chain_same r.chain (λ d o. same d (r.sound d o))

  pub row_same : {first' : ℕ} {P' : ℕ → Type 0} {most' : ℕ} → first' ≡ first → ((d : ℕ) → P d → P' d)
      → ((d : ℕ) → P' d → P d) → most ≤ most' → Row next' n first' R P' most'
  row_same e on back l = record {
    cells = r.cells;
    chain = subst (λ (c : ℕ). Chain next' n c r.cells) (sym e) chain-kept;
    few = let f = r.few in omega arith;
    sorted = r.sorted;
    sound = λ c o. on c (r.sound c o);
    complete = λ c p. r.complete c (back c p);
  }

  pub row_more : {first' c : ℕ} {P' : ℕ → Type 0} {most' : ℕ} → first' ≡ c → c < n → next' c ≡ first
      → ((d : ℕ) → P d → R c d) → P' c → ((d : ℕ) → P d → P' d) → ((d : ℕ) → P' d → (d ≡ c) ⊎ P d) → suc most ≤ most'
      → Row next' n first' R P' most'
  row_more {first'} {c} {P'} e h f before own on back l = record {
    cells = c ∷ r.cells;
    chain = subst (λ (d : ℕ). Chain next' n d (c ∷ r.cells)) (sym e)
        (link h (subst (λ (d : ℕ). Chain next' n d r.cells) (sym f) chain-kept));
    few = let g = r.few in omega arith;
    sorted = (λ d o. before d (r.sound d o), r.sorted);
    sound = λ d o. split o (λ q. subst P' (sym q) own) (λ k. on d (r.sound d k));
    complete = λ d p. split (back d p) inl (λ q. inr (r.complete d q));
  }

-- ---- lists of cells

pub all_of : (f : ℕ → Bool) (l : List ℕ) → ((c : ℕ) → OneOf c l → f c ≡ true) → All f l
all_of f [] h = tt
all_of f (x ∷ l) h = (h x (inl refl), all_of f l (λ c o. h c (inr o)))

pub sorted-mono : {R R' : ℕ → ℕ → Type 0} (l : List ℕ)
    → ((x y : ℕ) → OneOf x l → OneOf y l → R x y → R' x y) → Sorted R l → Sorted R' l
sorted-mono [] f h = tt
sorted-mono (x ∷ l) f h =
    (λ y o. f x y (inl refl) (inr o) (h.0 y o), sorted-mono l (λ a b i j. f a b (inr i) (inr j)) h.1)
