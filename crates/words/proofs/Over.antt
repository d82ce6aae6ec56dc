-- Laws of bytes laid over others: the one file that unfolds `over`.
--     over_none, over-front, over-length   no bytes change nothing; at the front; the length stays
--     over-before, over-in, over-behind    the byte at a place
--     over-over                            bytes laid behind those just laid are one row of bytes
--     over-set, over-ahead, over-push      a byte stored alone, just before those laid, just behind them
--     over_four                            four bytes stored one behind the other
-- Assumes nothing.
use mathlib.Core.List.{List, [], ◌∷◌, ◌++◌, append_assoc}
use mathlib.Core.Path.{◌≡◌, refl, sym, ap, ◌∙◌}
use Prim.Native.Nat.{ℕ, suc, ◌+◌, ◌≤◌, ◌<◌}
use native.Mathlib.Nat.{add-zero}
use native.Mathlib.Omega.{arith}
use lib.ListN.{length, get_or, take, drop, set, length-append, length-drop, take-append-drop, get_or-append}
use lib.Seq.{take_at, drop-drop, drop-append-add, get_or-append-add, get_or-take, get_or-drop, length-take-le}
use lib.Seq.{take-suc, append_snoc, set_at}
use Rattle.words.specs.Words.{over}

pub over_none : (s : List ℕ) (at : ℕ) → s ≡ over s at []
unfolding over
over_none s at = rw (add-zero) (sym (take-append-drop at s))

pub over-front : (s bs : List ℕ) → over s 0 bs ≡ bs ++ drop (length bs) s
unfolding over
over-front s bs = let e : 0 + length bs ≡ length bs = omega arith in ap (λ (n : ℕ). bs ++ drop n s) e

module _ (s : List ℕ) (at : ℕ) (bs : List ℕ) (fits : at + length bs ≤ length s) where
  head-length : length (take at s) ≡ at
  head-length = length-take-le at s (omega arith)

  pub over-length : length (over s at bs) ≡ length s
  unfolding over
  over-length = simp (length-append, length-drop) (omega (arith, head-length))

  pub over-before : (k : ℕ) → k < at → get_or (over s at bs) k 0 ≡ get_or s k 0
  unfolding over
  over-before k h =
      let l : k < length (take at s) = rw head-length h in
      get_or-append (take at s) (bs ++ drop (at + length bs) s) 0 k l ∙ get_or-take at s k 0 h

  pub over-in : (k : ℕ) → k < length bs → get_or (over s at bs) (at + k) 0 ≡ get_or bs k 0
  unfolding over
  over-in k h =
      ap (λ (n : ℕ). get_or (take at s ++ (bs ++ drop (at + length bs) s)) (n + k) 0) (sym head-length)
      ∙ get_or-append-add (take at s) (bs ++ drop (at + length bs) s) k 0
      ∙ get_or-append bs (drop (at + length bs) s) 0 k h

  pub over-behind : (k : ℕ) → get_or (over s at bs) (at + length bs + k) 0 ≡ get_or s (at + length bs + k) 0
  unfolding over
  over-behind k =
      let place : at + length bs + k ≡ length (take at s) + (length bs + k) = omega (arith, head-length) in
      ap (λ (n : ℕ). get_or (take at s ++ (bs ++ drop (at + length bs) s)) n 0) place
      ∙ get_or-append-add (take at s) (bs ++ drop (at + length bs) s) (length bs + k) 0
      ∙ get_or-append-add bs (drop (at + length bs) s) k 0
      ∙ get_or-drop (at + length bs) s k 0

  pub over-over : (next : ℕ) (cs : List ℕ) → next ≡ at + length bs → over (over s at bs) next cs ≡ over s at (bs ++ cs)
  unfolding over
  over-over next cs e =
      let front : take next (take at s ++ (bs ++ drop (at + length bs) s)) ≡ take at s ++ bs =
      ap (take next) (sym (append_assoc (take at s) bs (drop (at + length bs) s)))
      ∙ take_at (take at s ++ bs) (drop (at + length bs) s) next
      (length-append (take at s) bs ∙ omega (arith, head-length)) in
      let end : at + length bs + length cs ≡ at + length (bs ++ cs) = omega (arith, length-append bs cs) in
      let back :
      drop (next + length cs) (take at s ++ (bs ++ drop (at + length bs) s)) ≡ drop (at + length (bs ++ cs)) s =
      ap (λ (l : List ℕ). drop (next + length cs) l) (sym (append_assoc (take at s) bs (drop (at + length bs) s)))
      ∙ ap (λ (n : ℕ). drop (n + length cs) ((take at s ++ bs) ++ drop (at + length bs) s))
      (e ∙ omega (arith, head-length, length-append (take at s) bs))
      ∙ drop-append-add (take at s ++ bs) (drop (at + length bs) s) (length cs)
      ∙ drop-drop (length cs) (at + length bs) s
      ∙ ap (λ (n : ℕ). drop n s) end in
      rw (front, back) (simp append_assoc)

pub over-ahead : (s : List ℕ) (at next b : ℕ) (bs : List ℕ) → next ≡ suc at → next + length bs ≤ length s
    → set (over s next bs) at b ≡ over s at (b ∷ bs)
unfolding over
over-ahead s at next b bs e fits =
    let l : at < length s = omega arith in
    let end : next + length bs ≡ at + length (b ∷ bs) = omega arith in
    let tail = bs ++ drop (next + length bs) s in
    ap (λ (k : ℕ). set (take k s ++ tail) at b) e
    ∙ ap (λ (p : List ℕ). set (p ++ tail) at b) (take-suc s at 0 l)
    ∙ ap (λ (p : List ℕ). set p at b) (append_snoc (take at s) (get_or s at 0) tail)
    ∙ set_at (take at s) (get_or s at 0) tail b at (length-take-le at s (omega arith))
    ∙ ap (λ (k : ℕ). take at s ++ b ∷ (bs ++ drop k s)) end

pub over-set : (s : List ℕ) (at b : ℕ) → at < length s → set s at b ≡ over s at (b ∷ [])
over-set s at b l =
    ap (λ (u : List ℕ). set u at b) (over_none s (suc at)) ∙ over-ahead s at (suc at) b [] refl (omega arith)

pub over-push : (s : List ℕ) (at : ℕ) (bs : List ℕ) {t : List ℕ} (next b : ℕ) → t ≡ over s at bs
    → next ≡ at + length bs → next < length s → set t next b ≡ over s at (bs ++ (b ∷ []))
over-push s at bs next b laid e l =
    let h : next < length (over s at bs) = rw (over-length s at bs (omega arith)) l in
    ap (λ (u : List ℕ). set u next b) laid ∙ over-set (over s at bs) next b h
    ∙ over-over s at bs (omega arith) next (b ∷ []) e

pub over_four : (s : List ℕ) (at a b c d : ℕ) → at + 4 ≤ length s
    → set (set (set (set s at a) (at + 1) b) (at + 2) c) (at + 3) d ≡ over s at (a ∷ b ∷ c ∷ d ∷ [])
over_four s at a b c d fits =
    let one = over-set s at a (omega arith) in
    let two = over-push s at (a ∷ []) (at + 1) b one refl (omega arith) in
    let three = over-push s at (a ∷ b ∷ []) (at + 2) c two refl (omega arith) in
    over-push s at (a ∷ b ∷ c ∷ []) (at + 3) d three refl (omega arith)
