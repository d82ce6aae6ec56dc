-- Records laid one behind the other, from a place in bytes on.
--     Lays s at row n t i    the invariant of a loop that lays them: t is s with the first i
--     lays-start, lays_step, lays-done    its laws
--     laid-front             a row laid from the front on
-- A turn lays 16 bytes behind those laid before it (`over-over`). Assumes nothing.
use Rattle.std.proofs.Common.{◌≡◌, ℕ, suc, ◌+◌, ◌*◌, ◌<◌, ◌≤◌, List, [], ◌∷◌, ◌++◌, length, drop, sym, ap, ◌∙◌}
use Rattle.std.proofs.Common.{append-nil, add-one, arith}
use mathlib.Core.List.{flat_map}
use Rattle.record.specs.declared.Peak.{Peak}
use Rattle.layout.specs.Layout.{bytes_of, fields_of, all_fields_of}
use Rattle.words.specs.Words.{over}
use Rattle.words.proofs.Over.{over-front, over-over}
use Rattle.layout.proofs.Over.{over-nil}
use Rattle.layout.proofs.Rows.{four-length, four-append, record-four, bytes-length, bytes-append}
use Rattle.table.proofs.Grows.{Grows, grows-length}

-- ---- the bytes of a row

module _ {row : ℕ → List Peak} {peak : ℕ → Peak} {n : ℕ} (g : Grows row peak n) where
  row-bytes : (i : ℕ) → i ≤ n → length (bytes_of (all_fields_of (row i))) ≡ 16 * i
  row-bytes i l =
      omega (arith, bytes-length (all_fields_of (row i)), four-length fields_of record-four (row i), grows-length g i l)

  row_next : (i : ℕ) → i < n
      → bytes_of (all_fields_of (row i)) ++ bytes_of (fields_of (peak i)) ≡ bytes_of (all_fields_of (row (suc i)))
  unfolding flat_map
  row_next i l =
      sym (bytes-append (all_fields_of (row i)) (fields_of (peak i)))
      ∙ ap (λ (k : List ℕ). bytes_of (all_fields_of (row i) ++ k)) (sym (append-nil (fields_of (peak i))))
      ∙ ap bytes_of (sym (four-append fields_of record-four (row i) (peak i ∷ [])))
      ∙ ap (λ (ps : List Peak). bytes_of (all_fields_of ps)) (sym (g.next i l))

-- ---- the loop that lays them

pub record Lays (s : List ℕ) (at : ℕ) (row : ℕ → List Peak) (n : ℕ) (t : List ℕ) (i : ℕ) : Type 0 where
  pub below : i ≤ n
  pub bytes : t ≡ over s at (bytes_of (all_fields_of (row i)))

module _ {row : ℕ → List Peak} {peak : ℕ → Peak} {n : ℕ} (g : Grows row peak n) {s : List ℕ} {at : ℕ} where
  pub lays-start : Lays s at row n s 0
  unfolding flat_map
  lays-start = record {
    below = omega arith;
    bytes = over-nil s at ∙ ap (λ (ps : List Peak). over s at (bytes_of (all_fields_of ps))) (sym g.start);
  }

  module _ {t : List ℕ} {i : ℕ} (h : Lays s at row n t i) (room : 0 < n → at + 16 * n ≤ length s) where
    pub lays_step : {u : List ℕ} {p : Peak} {place : ℕ} → i < n → p ≡ peak i → place ≡ at + 16 * i
        → u ≡ over t place (bytes_of (fields_of p)) → Lays s at row n u (i + 1)
    lays_step {u} {p} {place} here e q f =
        let b = row-bytes g i (omega arith) in
        record {
          below = omega arith;
          bytes =
              f ∙ ap (λ (l : List ℕ). over l place (bytes_of (fields_of p))) h.bytes
              ∙ over-over s at (bytes_of (all_fields_of (row i))) (omega (arith, room (omega arith))) place
              (bytes_of (fields_of p)) (omega arith)
              ∙ ap (λ (x : Peak). over s at (bytes_of (all_fields_of (row i)) ++ bytes_of (fields_of x))) e
              ∙ ap (over s at) (row_next g i here) ∙ rw (add-one i);
        }

  pub lays-done : {t : List ℕ} {i : ℕ} → Lays s at row n t i → n ≤ i → t ≡ over s at (bytes_of (all_fields_of (row n)))
  lays-done {i = i} h l =
      let b = h.below in
      let e : i ≡ n = omega arith in
      h.bytes ∙ ap (λ (k : ℕ). over s at (bytes_of (all_fields_of (row k)))) e

-- a row laid from the front on
pub laid-front : (s : List ℕ) (ps : List Peak)
    → over s 0 (bytes_of (all_fields_of ps)) ≡ bytes_of (all_fields_of ps) ++ drop (16 * length ps) s
laid-front s ps =
    over-front s (bytes_of (all_fields_of ps))
    ∙ ap (λ (k : ℕ). bytes_of (all_fields_of ps) ++ drop k s)
    (omega (arith, bytes-length (all_fields_of ps), four-length fields_of record-four ps))
