-- The flood in the work area, from its start to its end.
--     Floods                     what is known between two turns
--     Begun, begun               before the first turn
--     floods-few, floods-done    between two turns, and the end
-- Assumes nothing.
use mathlib.Core.Path.{◌≡◌, refl, ◌∙◌, ap}
use mathlib.Core.List.{List}
use mathlib.Core.Logic.{◌↔◌}
use Prim.Native.Nat.{ℕ, ◌+◌, ◌*◌, ◌≤◌, ◌<◌}
use native.Mathlib.Nat.{add-zero}
use native.Mathlib.Omega.{arith}
use lib.ListN.{length}
use Rattle.relief.specs.Inner.{cut}
use Rattle.relief.proofs.Tests.{split, le-or-lt, decide, eq-decides}
use Rattle.relief.proofs.Levels.{cut_below, cut-behind}
use Rattle.words.specs.Words.{word_at, Stored}
use Rattle.area.specs.Area.{level_in, order_in, parent_in}
use Rattle.flood.specs.Flood.{Flooding, Flooded}
use Rattle.flood.specs.Inner.{Sieved, Spreading}
use Rattle.flood.proofs.Sieves.{sieved-gates, sieved-none}
use Rattle.flood.proofs.Spreading.{spreading-start, spreading-few, spreading-done}

pub record Floods (touch : ℕ → ℕ → Type 0) (s t : List ℕ) (n start low head tail : ℕ) : Type 0 where
  pub spreading : Spreading touch n (order_in t n) (parent_in t n) head tail (λ (c : ℕ). ⊥)
  pub first : order_in t n 0 ≡ start
  pub gates : (c : ℕ) → c < n → (parent_in t n c ≤ n) ↔ (low ≤ level_in s c)
  pub front : (j : ℕ) → j < n → word_at t j ≡ word_at s j
  pub back : (j : ℕ) → 3 * n ≤ j → word_at t j ≡ word_at s j
  pub len : length t ≡ length s

-- what the cells opened and the start put into the queue leave
pub record Begun (touch : ℕ → ℕ → Type 0) (s t : List ℕ) (n start low : ℕ) : Type 0 where
  pub floods : Floods touch t t n start low 0 1
  pub front : (j : ℕ) → j < n → word_at t j ≡ word_at s j
  pub back : (j : ℕ) → 3 * n ≤ j → word_at t j ≡ word_at s j
  pub len : length t ≡ length s

pub begun : {touch : ℕ → ℕ → Type 0} {s a b t : List ℕ} {n start low v : ℕ} → Flooding s n start low
    → Sieved s a n low n → Stored a b (2 * n + start) 0 → Stored b t n v → v ≡ start → Begun touch s t n start low
begun {touch} {s} {a} {b} {t} {n} {start} {low} {v} w h p q e =
    let l = w.cell in
    record {
      floods = record {
        spreading = spreading-start l head here (λ c k d. let f = other c k d in
            let g = sieved-none h (omega arith) c k in omega arith);
        first = head;
        gates = λ c k. split (decide (eq-decides c start))
            (λ d.
            let f = ap (parent_in t n) d in
            let g = ap (level_in s) d in
            let m = w.high in
            let y = level c k in
            let z = here in
            (λ x. omega arith, λ x. omega arith))
            (λ d.
            let f = other c k d in
            let y = level c k in
            let g = sieved-gates h (omega arith) c k in
            (λ x. let u = g.0 (omega arith) in omega arith, λ x. let u = g.1 (omega arith) in omega arith));
        front = λ j k. refl;
        back = λ j k. refl;
        len = refl;
      };
      front = level;
      back = λ j k. q.there j (λ d. omega arith) ∙ p.there j (λ d. omega arith) ∙ h.other j (λ x y. omega arith);
      len = q.len ∙ p.len ∙ h.len;
    }
  where
    head : order_in t n 0 ≡ start
    head = ap (word_at t) (add-zero n) ∙ q.here ∙ e

    here : parent_in t n start ≡ 0
    here = let l = w.cell in q.there (2 * n + start) (λ d. omega arith) ∙ p.here

    level : (j : ℕ) → j < n → word_at t j ≡ word_at s j
    level j k =
        let l = w.cell in
        q.there j (λ d. omega arith) ∙ p.there j (λ d. omega arith) ∙ h.other j (λ x y. omega arith)

    other : (c : ℕ) → c < n → (c ≡ start → ⊥) → parent_in t n c ≡ parent_in a n c
    other c k d = q.there (2 * n + c) (λ f. omega arith) ∙ p.there (2 * n + c) (λ f. d (omega arith))

module _ {touch : ℕ → ℕ → Type 0} {s t : List ℕ} {n start low head tail : ℕ}
    (h : Floods touch s t n start low head tail) where
  pub floods-few : tail ≤ n
  floods-few = spreading-few h.spreading

-- the flood from its beginning on, once all cells of the queue had their turn
module _ {touch : ℕ → ℕ → Type 0} {s t u : List ℕ} {n start low head tail : ℕ} (g : Begun touch s t n start low)
    (h : Floods touch t u n start low head tail) where
  -- no cell behind the grid's end is at or above the level
  small : 0 < low → (c : ℕ) → low ≤ cut n (level_in s) c → c < n
  small land c m =
      split (le-or-lt n c) (λ l. let e = cut-behind n (level_in s) c l in absurd (omega arith)) (λ l. l)

  pub floods-done : 0 < low → tail ≤ head → Flooded touch s u n start low tail
  floods-done land over = record {
    spread = spreading-done h.spreading over h.first
        (λ c l. let e = cut_below n (level_in s) c l in let f = g.front c l in let k = h.gates c l in
        (λ x. let y = k.0 x in omega arith, λ x. k.1 (omega arith))) (small land);
    few = floods-few h;
    inside = h.spreading.queued;
    found = h.spreading.found;
    front = λ j l. h.front j l ∙ g.front j l;
    back = λ j l. h.back j l ∙ g.back j l;
    len = h.len ∙ g.len;
  }
