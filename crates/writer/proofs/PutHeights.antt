-- The bits of heights laid over a room, behind the header.
--     bits_to hs i        the bits of the first i heights
--     bits-laid           the next height laid behind them
-- Assumes nothing.
use mathlib.Core.List.{List, [], ◌∷◌, ◌++◌, map, map-append}
use mathlib.Core.Path.{◌≡◌, sym, ap, ◌∙◌}
use Prim.Native.Nat.{ℕ, ◌+◌, ◌*◌, ◌≤◌, ◌<◌}
use native.Mathlib.Numerals.{add-one}
use native.Mathlib.Omega.{arith}
use lib.IntN.{ℤ, pos}
use lib.ListN.{length, take, get_or, length-map}
use lib.Seq.{take-suc, length-take-le}
use Rattle.layout.specs.Layout.{bits_of, word_of, bytes_of}
use Rattle.words.specs.Words.{over}
use Rattle.layout.proofs.Over.{over-next}

abbrev pub bits_to : List ℤ → ℕ → List ℕ
bits_to hs i = map bits_of (take i hs)

pub bits-laid :
    (s : List ℕ) (hs : List ℤ) {t : List ℕ} (i : ℕ) → 24 + 4 * length hs ≤ length s →
    t ≡ over s 24 (bytes_of (bits_to hs i)) → {u : List ℕ} {w : ℕ} → i < length hs →
    w ≡ bits_of (get_or hs i (pos 0)) → u ≡ over t (4 * (6 + i)) (word_of w) →
    u ≡ over s 24 (bytes_of (bits_to hs (i + 1)))
bits-laid s hs i fits laid h same e =
    let len = length-map (take i hs) bits_of ∙ length-take-le i hs (omega arith) in
    let more : bits_to hs i ++ (bits_of (get_or hs i (pos 0)) ∷ []) ≡ bits_to hs (i + 1) =
    rw (add-one i, take-suc hs i (pos 0) h) (sym (map-append bits_of (take i hs) (get_or hs i (pos 0) ∷ []))) in
    over-next s (bits_to hs i) (bits_of (get_or hs i (pos 0))) 24 (4 * (6 + i)) (omega (arith, len)) laid
    (omega (arith, len)) same e
    ∙ ap (λ (vs : List ℕ). over s 24 (bytes_of vs)) more
