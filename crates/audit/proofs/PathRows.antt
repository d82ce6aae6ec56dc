-- The path of an account as a row. A row that leads out is the row of a way: it has a cell, begins at the peak, ends at
-- outranking ground, is at or above k at each place, and there touched by the cell before. Where all that holds, the
-- row is such a way.
--     leads-some, -first, -stays, -outranks    what holds of a row that leads out
--     leads-of                                 and its parts
-- Assumes nothing.
use mathlib.Core.Path.{◌≡◌, sym, subst}
use mathlib.Core.List.{List}
use Prim.Native.Nat.{ℕ, zero, suc, ◌-◌, ◌<◌}
use native.Mathlib.Omega.{arith}
use native.Mathlib.Numerals.{unary_clauses}
use lib.ListN.{length, get_or}
use Rattle.relief.specs.Peaks.{Outranks}
use Rattle.relief.specs.Accounts.{cells_of, LeadsOut}
use Rattle.relief.proofs.Rows.{way-of-row, row-some, row_first, row_last, row_inside, row-steps}
use Rattle.audit.specs.Inner.{Stays}

module _ {touch : ℕ → ℕ → Type 0} {level : ℕ → ℕ} {p k : ℕ} {path : List ℕ} where
  module _ (h : LeadsOut touch level p k path) where
    pub leads-some : 0 < length path
    leads-some = subst (λ (l : List ℕ). 0 < length l) h.cells (row-some h.way)

    pub leads-first : get_or path 0 0 ≡ p
    leads-first = subst (λ (l : List ℕ). get_or l 0 0 ≡ p) h.cells (row_first h.way)

    leads-last : get_or path (length path - 1) 0 ≡ h.ground
    leads-last = subst (λ (l : List ℕ). get_or l (length l - 1) 0 ≡ h.ground) h.cells (row_last h.way)

    pub leads-outranks : Outranks touch level p (get_or path (length path - 1) 0)
    leads-outranks = subst (Outranks touch level p) (sym leads-last) h.outranks

    pub leads_stays : Stays touch level k path
    leads_stays = subst (Stays touch level k) h.cells (λ i l. (row_inside h.way i l, step i l))
      where
        step : (i : ℕ) → i < length (cells_of h.way) → 0 < i
            → touch (get_or (cells_of h.way) (i - 1) 0) (get_or (cells_of h.way) i 0)
        step zero l m = absurd (omega arith)
        step (suc i) l m = simp unary_clauses (row-steps h.way i l)

  pub leads-of : 0 < length path → get_or path 0 0 ≡ p → Stays touch level k path
      → Outranks touch level p (get_or path (length path - 1) 0) → LeadsOut touch level p k path
  leads-of l e h o =
      let last = get_or path (length path - 1) 0 in
      let (w, r) = way-of-row path l (λ i m. (h i m).0) (λ i m. simp unary_clauses at ((h (suc i) m).1 (omega arith)))
      in
      subst (λ (a : ℕ). LeadsOut touch level a k path) e
      (record {
        ground = last;
        outranks = subst (λ (a : ℕ). Outranks touch level a last) (sym e) o;
        way = w;
        cells = r;
      })
