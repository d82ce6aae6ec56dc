-- Numbers laid over bytes.
--     over-nil                             no numbers change nothing
--     byte-of-word                         a byte is a digit of the number that it is part of
--     over_word                            a number stored at a place of four bytes lays its bytes over
--     over-next                            numbers laid one after the other are a row of numbers
-- A stored number agrees with its bytes laid over at each byte, by the digits. Assumes nothing.
use Rattle.std.proofs.Common.{◌≡◌, ℕ, zero, suc, ◌+◌, ◌-◌, ◌*◌, ◌/◌, ◌%◌, ◌<◌, ◌≤◌, List, [], ◌∷◌, ◌++◌, length, get_or}
use Rattle.std.proofs.Common.{sym, ap, ◌∙◌, append-nil, add-zero, arith, ext_get_or}
use mathlib.Core.List.{flat_map}
use native.Mathlib.Decide.{dec_lt, ℕ_discrete}
use Rattle.words.specs.Words.{word_at, Stored, over}
use Rattle.words.proofs.Over.{over_none, over-length, over-before, over-in, over-behind, over-over}
use Rattle.layout.specs.Layout.{word_of, bytes_of}
use Rattle.layout.proofs.Rows.{bytes-length, bytes-append}

pub over-nil : (s : List ℕ) (at : ℕ) → s ≡ over s at (bytes_of [])
unfolding flat_map
over-nil s at = over_none s at

-- ---- a number stored

pub byte-of-word :
    (s : List ℕ) → ((k : ℕ) → get_or s k 0 < 256) → (j r : ℕ) → r < 4 →
    get_or s (4 * j + r) 0 ≡ get_or (word_of (word_at s j)) r 0
unfolding word_at word_of
byte-of-word s b j zero h = ap (λ (k : ℕ). get_or s k 0) (add-zero (4 * j)) ∙ omega (arith, b (4 * j))
byte-of-word s b j (suc zero) h = omega (arith, b (4 * j), b (4 * j + 1))
byte-of-word s b j (suc (suc zero)) h = omega (arith, b (4 * j), b (4 * j + 1), b (4 * j + 2))
byte-of-word s b j (suc (suc (suc zero))) h =
    omega (arith, b (4 * j), b (4 * j + 1), b (4 * j + 2), b (4 * j + 3))
byte-of-word s b j (suc (suc (suc (suc r)))) h = absurd (omega arith)

module _ (s t : List ℕ) (bytes : (k : ℕ) → get_or s k 0 < 256) (bytes' : (k : ℕ) → get_or t k 0 < 256)
    (i v : ℕ) (fits : 4 * i + 4 ≤ length s) (stored : Stored s t i v) where
  word-length : 4 * i + length (word_of v) ≤ length s
  unfolding word_of
  word-length = fits

  over-word-at : (j r : ℕ) → r < 4 → Dec (j ≡ i) → get_or t (4 * j + r) 0 ≡ get_or (over s (4 * i) (word_of v))
      (4 * j + r) 0
  unfolding word_of
  over-word-at j r h (yes e) =
      let word : word_at t j ≡ v = ap (word_at t) e ∙ stored.here in
      byte-of-word t bytes' j r h ∙ ap (λ (w : ℕ). get_or (word_of w) r 0) word
      ∙ sym (over-in s (4 * i) (word_of v) fits r h)
      ∙ ap (λ (k : ℕ). get_or (over s (4 * i) (word_of v)) (4 * k + r) 0) (sym e)
  over-word-at j r h (no n) =
      byte-of-word t bytes' j r h ∙ ap (λ (w : ℕ). get_or (word_of w) r 0) (stored.there j n)
      ∙ sym (byte-of-word s bytes j r h)
      ∙ elim (dec_lt j i) [
        | yes l ↦ sym (over-before s (4 * i) (word_of v) fits (4 * j + r) (omega arith))
        | no l ↦
            let place : 4 * i + 4 + (4 * j + r - (4 * i + 4)) ≡ 4 * j + r = omega arith in
            let e = over-behind s (4 * i) (word_of v) fits (4 * j + r - (4 * i + 4)) in
            sym (rw place at e)
      ]

  pub over_word : t ≡ over s (4 * i) (word_of v)
  over_word =
      ext_get_or 0 t (over s (4 * i) (word_of v)) (stored.len ∙ sym (over-length s (4 * i) (word_of v) word-length))
      (λ k h.
      let place : 4 * (k / 4) + k % 4 ≡ k = omega arith in
      let e = over-word-at (k / 4) (k % 4) (omega arith) (ℕ_discrete (k / 4) i) in
      rw place at e)

-- ---- a row of numbers, laid one after the other

pub over-next :
    (s : List ℕ) {t u : List ℕ} (vs : List ℕ) {w : ℕ} (v at next : ℕ) → at + 4 * length vs ≤ length s →
    t ≡ over s at (bytes_of vs) → next ≡ at + 4 * length vs → w ≡ v → u ≡ over t next (word_of w) →
    u ≡ over s at (bytes_of (vs ++ (v ∷ [])))
unfolding flat_map
over-next s {t} {u} vs {w} v at next fits e place same e' =
    let len = bytes-length vs in
    let last : bytes_of (v ∷ []) ≡ word_of v = append-nil (word_of v) in
    e' ∙ ap (λ (l : List ℕ). over l next (word_of w)) e
    ∙ ap (λ (x : ℕ). over (over s at (bytes_of vs)) next (word_of x)) same
    ∙ over-over s at (bytes_of vs) (omega arith) next (word_of v) (omega arith)
    ∙ ap (λ (l : List ℕ). over s at (bytes_of vs ++ l)) (sym last)
    ∙ ap (over s at) (sym (bytes-append vs (v ∷ [])))
