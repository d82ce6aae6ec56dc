-- The cells that may be reached are opened.
--     sieved-gates    open are the cells at or above the level, and no others
--     sieved-none     and no cell is reached yet
-- Assumes nothing.
use mathlib.Core.List.{List}
use mathlib.Core.Logic.{◌↔◌}
use Prim.Native.Nat.{ℕ, ◌+◌, ◌≤◌, ◌<◌}
use native.Mathlib.Omega.{arith}
use lib.Dec.{ltb}
use borrow.Author.Tests.{lt-ltb, le-ltb}
use Rattle.relief.proofs.Tests.{split, le-or-lt, cond-true, cond-false}
use Rattle.area.specs.Area.{level_in, parent_in}
use Rattle.flood.specs.Inner.{Sieved}

module _ {s t : List ℕ} {n low c : ℕ} (h : Sieved s t n low c) where
  -- a cell is open just if it is at or above the level
  pub sieved-gates : n ≤ c → (d : ℕ) → d < n → (parent_in t n d ≤ n) ↔ (low ≤ level_in s d)
  sieved-gates m d l =
      let g = h.gates d (omega arith) in
      split (le-or-lt low (level_in s d))
      (λ k. let f = cond-false (ltb (level_in s d) low) (n + 1) n (le-ltb (level_in s d) low k) in
      (λ a. k, λ a. omega arith))
      (λ k. let f = cond-true (ltb (level_in s d) low) (n + 1) n (lt-ltb (level_in s d) low k) in
      (λ a. absurd (omega arith), λ a. absurd (omega arith)))

  -- and no cell is reached yet
  pub sieved-none : n ≤ c → (d : ℕ) → d < n → n ≤ parent_in t n d
  sieved-none m d l =
      let g = h.gates d (omega arith) in
      split (le-or-lt low (level_in s d))
      (λ k. let f = cond-false (ltb (level_in s d) low) (n + 1) n (le-ltb (level_in s d) low k) in omega arith)
      (λ k. let f = cond-true (ltb (level_in s d) low) (n + 1) n (lt-ltb (level_in s d) low k) in omega arith)
