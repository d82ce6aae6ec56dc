-- The tops printed one after the other.
--     tops-asked, tops_step         what is put of the tops is the text of those among the first cells
-- Assumes nothing.
use mathlib.Core.Path.{◌≡◌, ap, subst}
use mathlib.Core.Bool.{Bool, true, false, cond}
use mathlib.Core.List.{List, []}
use Prim.Native.Nat.{ℕ, zero, suc, ◌+◌, ◌-◌, ◌≤◌, ◌<◌}
use native.Mathlib.Decide.{dec_lt}
use native.Mathlib.Numerals.{add-one}
use native.Mathlib.Omega.{arith}
use lib.ListN.{length, length-append}
use Rattle.lines.specs.Sinks.{IsSink}
use Rattle.outline.specs.Inner.{peak_print, top_print, tops_print, TopPrinting, TopsPrinting}
use Rattle.kin.specs.Kin.{is_top}

-- the text of the tops among the first cells, and that of the next one, are within the text of more
tops-within : (s : List ℕ) (n left k c : ℕ) → c < k
    → length (tops_print s n left c) + length (top_print s n left c) ≤ length (tops_print s n left k)
unfolding tops_print
tops-within s n left zero c l = absurd (omega arith)
tops-within s n left (suc k) c l =
    let e = length-append (tops_print s n left k) (top_print s n left k) in
    elim (dec_lt c k) [
      | yes m ↦ omega (arith, e, tops-within s n left k c m)
      | no m ↦ let here : c ≡ k = omega arith in rw here (omega (arith, e))
    ]

module _ {S : Type 0} {fits : S → ℕ → Type 0} {gives : S → List ℕ → S → Type 0} (sink : IsSink fits gives)
    {s : List ℕ} {n : ℕ} {z : S} {left : ℕ} where
  module _ (g : TopsPrinting s n (fits z) left) {now : S} {c : ℕ} (put : gives z (tops_print s n left c) now)
      (l : c < n) where
    more : ℕ
    more = length (tops_print s n left n) - (length (tops_print s n left c) + length (top_print s n left c))

    split-fits : fits z (length (tops_print s n left c) + (length (top_print s n left c) + more))
    unfolding more
    split-fits =
        let within = tops-within s n left n c l in
        let e : length (tops_print s n left n)
        ≡ length (tops_print s n left c) + (length (top_print s n left c)
        + (length (tops_print s n left n) - (length (tops_print s n left c) + length (top_print s n left c)))) =
        omega arith in
        subst (fits z) e g.enough

    pub tops-asked : TopPrinting s n (fits now) c left
    tops-asked = record {
      area = g.area;
      cell = l;
      linked = g.linked c l;
      enough =
          sink.front now (length (top_print s n left c)) more
          (sink.rest z now (tops_print s n left c) (length (top_print s n left c) + more) split-fits put);
      few = g.few;
    }

    pub tops_step : {then : S} → gives now (top_print s n left c) then → gives z (tops_print s n left (c + 1)) then
    unfolding tops_print
    tops_step {then} p =
        let first = sink.front z (length (tops_print s n left c)) (length (top_print s n left c) + more) split-fits in
        rw (add-one c) (sink.more z now then (tops_print s n left c) (top_print s n left c) first put p)

-- ---- one cell

module _ {S : Type 0} {fits : S → ℕ → Type 0} {gives : S → List ℕ → S → Type 0} (sink : IsSink fits gives)
    {s : List ℕ} {n : ℕ} {z : S} {c left : ℕ} (g : TopPrinting s n (fits z) c left) where
  is_none : is_top s n c ≡ false → top_print s n left c ≡ []
  is_none e = ap (λ (b : Bool). cond b (peak_print s n left 1 c) []) e

  is-peak : is_top s n c ≡ true → top_print s n left c ≡ peak_print s n left 1 c
  is-peak e = ap (λ (b : Bool). cond b (peak_print s n left 1 c) []) e
