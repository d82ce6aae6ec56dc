-- Walks along links.
--     passes-few, peaks-few     they lead through no more than all cells
--     chain-ends                where links lead through a row of cells, a longer walk is the same
--     walk-end, walk-more       at the end no cell is left, and else one is taken off
--     ends-step                 the rest of a walk that ends does
-- Assumes nothing.
use mathlib.Core.Path.{◌≡◌, refl, sym, ap, ◌∙◌}
use mathlib.Core.List.{List, [], ◌∷◌}
use Prim.Native.Nat.{ℕ, zero, suc, ◌≤◌, ◌<◌}
use native.Mathlib.Decide.{dec_lt}
use native.Mathlib.Omega.{arith}
use borrow.Author.Tests.{lt-ltb, le-ltb}
use lib.ListN.{length, drop}
use Rattle.area.specs.Area.{parent_in, pass_in, cell_in}
use Rattle.kin.specs.Kin.{Chain, walk, passes_in, peaks_in}

-- ---- walks

walk-few : (next : ℕ → ℕ) (n most c : ℕ) → length (walk next n most c) ≤ most
unfolding walk
walk-few next n zero c = omega arith
walk-few next n (suc most) c =
    let ih = walk-few next n most (next c) in
    elim (dec_lt c n) [ yes l ↦ rw (lt-ltb c n l) (omega arith) | no l ↦ rw (le-ltb c n (omega arith)) (omega arith) ]

walk-chain : {next : ℕ → ℕ} {n c : ℕ} {l : List ℕ} → Chain next n c l → (most : ℕ) → length l ≤ most
    → walk next n most c ≡ l
unfolding walk
walk-chain {n = n} (Chain.end {c = c} h) zero few = refl
walk-chain {n = n} (Chain.end {c = c} h) (suc most) few = rw (le-ltb c n h)
walk-chain (Chain.link h t) zero few = absurd (omega arith)
walk-chain {n = n} (Chain.link {c = c} h t) (suc most) few =
    let ih = walk-chain t most (omega arith) in rw (lt-ltb c n h) (ap (λ l. c ∷ l) ih)

pub passes-few : (s : List ℕ) (n q : ℕ) → length (passes_in s n q) ≤ n
unfolding passes_in
passes-few s n q = walk-few (pass_in s n) n n (pass_in s n q)

pub peaks-few : (s : List ℕ) (n x : ℕ) → length (peaks_in s n x) ≤ n
unfolding peaks_in
peaks-few s n x = walk-few (parent_in s n) n n (cell_in (parent_in s n x))

-- ---- walks that end

module _ (next : ℕ → ℕ) (n : ℕ) where
  pub walk-end : (most c : ℕ) → n ≤ c → walk next n most c ≡ []
  unfolding walk
  walk-end zero c h = refl
  walk-end (suc most) c h = rw (le-ltb c n h)

  pub walk-more : (most c : ℕ) → c < n → walk next n (suc most) c ≡ c ∷ walk next n most (next c)
  unfolding walk
  walk-more most c l = rw (lt-ltb c n l)

  abbrev Ends : ℕ → ℕ → Type 0
  Ends most c = walk next n most c ≡ walk next n (suc most) c

  tail-ends : (most c : ℕ) → c < n → Ends (suc most) c → Ends most (next c)
  tail-ends most c l e = ap (drop 1) (sym (walk-more most c l) ∙ e ∙ walk-more (suc most) c l)

  ends-longer : (most c : ℕ) → Ends most c → Ends (suc most) c
  unfolding walk
  ends-longer zero c e = elim (dec_lt c n) [
    | yes l ↦ absurd (omega (arith, ap length (e ∙ walk-more 0 c l)))
    | no h ↦ walk-end 1 c (omega arith) ∙ sym (walk-end 2 c (omega arith))
  ]
  ends-longer (suc most) c e = elim (dec_lt c n) [
    | yes l ↦
        let ih = ends-longer most (next c) (tail-ends most c l e) in
        walk-more (suc most) c l ∙ ap (λ t. c ∷ t) ih ∙ sym (walk-more (suc (suc most)) c l)
    | no h ↦ walk-end (suc (suc most)) c (omega arith) ∙ sym (walk-end (suc (suc (suc most))) c (omega arith))
  ]

  pub ends-step : (most c : ℕ) → c < n → Ends most c → Ends most (next c)
  unfolding walk
  ends-step zero c l e = absurd (omega (arith, ap length (e ∙ walk-more 0 c l)))
  ends-step (suc most) c l e = ends-longer most (next c) (tail-ends most c l e)

pub chain-ends : {next : ℕ → ℕ} {n c : ℕ} {l : List ℕ} → Chain next n c l → length l ≤ n
    → walk next n n c ≡ walk next n (suc n) c
chain-ends {n = n} chain few = walk-chain chain n few ∙ sym (walk-chain chain (suc n) (omega arith))
