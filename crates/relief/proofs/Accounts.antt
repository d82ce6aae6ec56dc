-- Accounts: laws of `Account` and `OwnAccount`. The island of an account is closed above its key height and nothing on
-- it outranks, so a path to outranking ground goes down to the key height; the account's own path goes no lower. So the
-- key height is the peak's, and with it the island is fixed. With the first way to the parent the path is, too.
--     account-of-best             the parts of an account
--     account-below, -best        its key height is below the peak, and nothing on its island is better
--     account-key                 it gives the peak's key height, or that there is none
--     account-unique, -exists     a peak has accounts, all of one key height and one island
--     island-order                the island in reading order, computed
--     own_of, own-of-none         the parts of the account that the tool gives
--     own-unique, own-distinct    a peak has one such account, and its path has no cell twice
-- Assumes nothing.
use mathlib.Core.Path.{◌≡◌, refl, sym, ◌∙◌, subst}
use mathlib.Core.Bool.{Bool}
use mathlib.Core.List.{List, []}
use Prim.Native.Nat.{ℕ, ◌≤◌, ◌<◌}
use native.Mathlib.Nat.{le_antisymm}
use native.Mathlib.Omega.{arith}
use Rattle.relief.specs.Peaks.{alone, Peak, Outranks, KeyHeight, NoKey, Island}
use Rattle.relief.specs.Outline.{Region, TopPeak}
use Rattle.relief.specs.Accounts.{cells_of, InOrder, LeadsOut, Account, FirstWay, OwnAccount, Distinct}
use Rattle.relief.specs.Inner.{Best, row_below}
use Rattle.relief.proofs.Tests.{split, le-or-lt}
use Rattle.relief.proofs.Ways.{way_end, way-mono, way_step}
use Rattle.relief.proofs.Flats.{Terrain, land-below}
use Rattle.relief.proofs.Keys.{island?, island-decides, key-land, key-way, key-account, key_below, floor-below}
use Rattle.relief.proofs.Keys.{best-free, best-of-free, best-of-key, best-of-none}
use Rattle.relief.proofs.Rows.{order-row-unique, row_below_lem, first-way-unique, first-way-distinct}
use Rattle.relief.proofs.Survey.{peak-key}
use Rattle.relief.proofs.Parents.{BestOf, top-of-best, top_unique, parent-outranks}

module _ {touch : ℕ → ℕ → Type 0} {touch? : ℕ → ℕ → Bool} {level : ℕ → ℕ} {n : ℕ}
    (t : Terrain touch touch? level n) where
  -- ---- any account

  pub account-of-best : {p k : ℕ} {path island : List ℕ} → k < level p → Best touch level k p
      → InOrder (Island touch level p k) island → (0 < k → LeadsOut touch level p k path) → (k ≡ 0 → path ≡ [])
      → Account touch level p k path island
  account-of-best {p} {k} l best isle leads none = record {
    leads = leads;
    none = none;
    isle = isle;
    shore = λ a b i s away. split (le-or-lt (level b) k) (λ h. h)
        (λ h. absurd (away ((isle.just b).1 (way_step ((isle.just a).0 i) s h))));
    free = λ c i. best-free t.symmetric l best c ((isle.just c).0 i);
  }

  pub account-below : {p k : ℕ} {path island : List ℕ} → Peak touch level p → Account touch level p k path island
      → k < level p
  account-below {p} {k} q a =
      split (le-or-lt k 0) (λ l. let m = q.land in omega arith)
      (λ l. let o = a.leads l in floor-below t.symmetric q o.outranks o.way)

  pub account-best : {p k : ℕ} {path island : List ℕ} → k < level p → Account touch level p k path island
      → Best touch level k p
  account-best l a = best-of-free t l (λ c w. a.free c ((a.isle.just c).1 w))

  pub account-key : {p k : ℕ} {path island : List ℕ} → Peak touch level p → Account touch level p k path island
      → (0 < k → KeyHeight touch level p k) × (k ≡ 0 → NoKey touch level p)
  account-key {p} {k} q a =
      let free : (c : ℕ) → Island touch level p k c → Outranks touch level p c → ⊥ =
      λ c w. a.free c ((a.isle.just c).1 w) in (
        λ l. let o = a.leads l in
            key-account l o.outranks o.way (Island touch level p k) (alone (account-below q a))
            (λ a b i s h. way_step i s h) free,
        λ e c o w. free c (way-mono (λ d l. omega arith) w) o,
      )

  -- the path of the second, were its key height the higher, would stay on the island of the first
  account-le : {p k k' : ℕ} {path path' island island' : List ℕ} → Account touch level p k path island
      → Account touch level p k' path' island' → k' ≤ k
  account-le {k = k} {k' = k'} a a' =
      split (le-or-lt k' k) (λ l. l)
      (λ l. let o = a'.leads (omega arith) in
      absurd (a.free o.ground ((a.isle.just o.ground).1 (way-mono (λ c h. omega arith) o.way))
      o.outranks))

  pub account-unique : {p k k' : ℕ} {path path' island island' : List ℕ} → Peak touch level p
      → Account touch level p k path island → Account touch level p k' path' island' → (k ≡ k') × (island ≡ island')
  account-unique {p} {k} {k'} {island' = island'} q a a' =
      let e : k ≡ k' = le_antisymm (account-le a' a) (account-le a a') in (
        e,
        order-row-unique a.isle
            (subst (λ (j : ℕ). InOrder (Island touch level p j) island') (sym e) a'.isle),
      )

  pub island-order : (p k : ℕ) → InOrder (Island touch level p k) (row_below (island? touch? level n p k) n)
  island-order p k =
      row_below_lem (island? touch? level n p k) n (λ c l. island-decides t p k c)
      (λ c w. land-below t c (let l : k < level c = way_end w in omega arith))

  account-of-key : {p k : ℕ} {path island : List ℕ} → Peak touch level p → KeyHeight touch level p k
      → InOrder (Island touch level p k) island → LeadsOut touch level p k path → Account touch level p k path island
  account-of-key q h isle leads =
      account-of-best (key_below t.symmetric q h) (best-of-key t q h) isle (λ l. leads)
      (λ e. let l = key-land h in absurd (omega arith))

  account-of-none : {p : ℕ} {island : List ℕ} → Peak touch level p → NoKey touch level p
      → InOrder (Island touch level p 0) island → Account touch level p 0 [] island
  account-of-none q h isle =
      account-of-best q.land (best-of-none t q h) isle (λ l. absurd (omega arith)) (λ e. refl)

  pub account-exists : (p : ℕ) → Peak touch level p
      → (k : ℕ) × (path : List ℕ) × (island : List ℕ) × Account touch level p k path island
  account-exists p q =
      split (peak-key t p q)
      (λ (k, h). (
        k,
        cells_of (key-way h),
        row_below (island? touch? level n p k) n,
        account-of-key q h (island-order p k)
            (record { ground = h.ground; outranks = h.outranks; way = key-way h; cells = refl }),
      ))
      (λ h. (0, [], row_below (island? touch? level n p 0) n, account-of-none q h (island-order p 0)))

  -- ---- the account that the tool gives

  pub own_of : {p k q : ℕ} {path island : List ℕ} → Peak touch level p → KeyHeight touch level p k
      → Region touch level p k q → BestOf touch level p k q → FirstWay touch (λ c. k ≤ level c) p q path
      → InOrder (Island touch level p k) island → OwnAccount touch level p k path island
  own_of {p} {k} {q} r h w best first isle =
      let top : TopPeak touch level p k q = top-of-best t (key-land h) w best in
      let o : Outranks touch level p q = parent-outranks t r (record { key = k; keyed = h; above = top }) in
      record {
        account = account-of-key r h isle
            (record { ground = q; outranks = o; way = first.way; cells = first.cells });
        parent = λ l. (q, top, first);
      }

  pub own-of-none : {p : ℕ} {island : List ℕ} → Peak touch level p → NoKey touch level p
      → InOrder (Island touch level p 0) island → OwnAccount touch level p 0 [] island
  own-of-none q h isle = record { account = account-of-none q h isle; parent = λ l. absurd (omega arith) }

  -- of one key height both paths are the first way to the one parent
  own-path : {p k : ℕ} {path path' island island' : List ℕ} → OwnAccount touch level p k path island
      → OwnAccount touch level p k path' island' → path ≡ path'
  own-path {p} {k} {path' = path'} a a' =
      split (le-or-lt k 0)
      (λ l. a.account.none (omega arith) ∙ sym (a'.account.none (omega arith)))
      (λ l.
      let (q, top, first) = a.parent l in
      let (q', top', first') = a'.parent l in
      first-way-unique first
      (subst (λ (x : ℕ). FirstWay touch (λ c. k ≤ level c) p x path') (top_unique t top' top) first'))

  pub own-unique : {p k k' : ℕ} {path path' island island' : List ℕ} → Peak touch level p
      → OwnAccount touch level p k path island → OwnAccount touch level p k' path' island'
      → (k ≡ k') × (path ≡ path') × (island ≡ island')
  own-unique {p} {path' = path'} {island' = island'} q a a' =
      let (e, f) = account-unique q a.account a'.account in
      (e, own-path a (subst (λ (j : ℕ). OwnAccount touch level p j path' island') (sym e) a'), f)

  pub own-distinct : {p k : ℕ} {path island : List ℕ} → OwnAccount touch level p k path island → Distinct path
  own-distinct {k = k} {path = path} a =
      split (le-or-lt k 0)
      (λ l. subst Distinct (sym (a.account.none (omega arith))) tt)
      (λ l. first-way-distinct (a.parent l).2)
