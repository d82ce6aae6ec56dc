-- Where bytes go, one behind the other.
--     IsSink fits gives    the laws of a sink, by what fits and by what putting bytes gives
--     Laid s bytes t       t is the page s with these bytes at its place, which stands behind them
--     counter_laws, page_laws    the two sinks keep the laws
-- Assumes nothing.
use Rattle.std.specs.Prelude.{◌≡◌, refl, List, [], ◌++◌, ℕ, ◌+◌, ◌≤◌, length}
use Rattle.std.proofs.Common.{◌∙◌, ap, arith, length-append}
use Rattle.words.specs.Words.{over}
use Rattle.words.proofs.Over.{over_none, over-length, over-over}
use Rattle.lines.specs.declared.sinks.Counter.{Counter}
use Rattle.lines.specs.declared.sinks.Page.{Page}

-- No bytes change nothing. Bytes put one behind the other are put together. Of what fits the front fits, and once it is
-- put the rest does.
pub record IsSink {S : Type 0} (fits : S → ℕ → Type 0) (gives : S → List ℕ → S → Type 0) : Type 0 where
  pub none : (s : S) → gives s [] s
  pub more : (s t u : S) (xs ys : List ℕ) → fits s (length xs) → gives s xs t → gives t ys u → gives s (xs ++ ys) u
  pub front : (s : S) (k m : ℕ) → fits s (k + m) → fits s k
  pub rest : (s t : S) (xs : List ℕ) (m : ℕ) → fits s (length xs + m) → gives s xs t → fits t m

pub counter_laws : IsSink (λ (s : Counter) k. s.bytes + k ≤ 18446744073709551615)
    (λ s bs t. t.bytes ≡ s.bytes + length bs)
counter_laws = record {
  none = λ s. omega arith;
  more = λ s t u xs ys f p q. omega (arith, p, q, length-append xs ys);
  front = λ s k m f. omega (arith, f);
  rest = λ s t xs m f p. omega (arith, f, p);
}

pub record Laid (s : Page) (bytes : List ℕ) (t : Page) : Type 0 where
  pub same_text : t.text.ghost_name ≡ s.text.ghost_name
  pub laid : t.text.now ≡ over s.text.now s.at bytes
  pub place : t.at ≡ s.at + length bytes

pub page_laws : IsSink (λ (s : Page) k. s.at + k ≤ length s.text.now) Laid
page_laws = record {
  none = λ s. record { same_text = refl; laid = over_none s.text.now s.at; place = omega arith };
  more = λ s t u xs ys f p q. record {
    same_text = q.same_text ∙ p.same_text;
    laid =
        q.laid ∙ ap (λ (l : List ℕ). over l t.at ys) p.laid ∙ over-over s.text.now s.at xs f t.at ys p.place;
    place = omega (arith, p.place, q.place, length-append xs ys);
  };
  front = λ s k m f. omega (arith, f);
  rest = λ s t xs m f p.
      let e = ap length p.laid in
      let l = over-length s.text.now s.at xs (omega (arith, f)) in
      omega (arith, f, p.place, e, l);
}
