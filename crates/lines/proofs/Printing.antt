-- Laws of bytes put one behind the other.
--     Left fits gives s all t todo     of the bytes `all` for the sink s just `todo` are still to be put, to t
--     left-start, left-fits, left_step, left-done, left-fits-last, left-last    its laws
-- Assumes nothing.
use mathlib.Core.Path.{◌≡◌, sym, ap, ◌∙◌, subst}
use mathlib.Core.List.{List, [], ◌++◌, append-nil, append_assoc}
use Prim.Native.Nat.{ℕ}
use lib.ListN.{length, length-append}
use Rattle.lines.specs.Sinks.{IsSink}

pub record Left {S : Type 0} (fits : S → ℕ → Type 0) (gives : S → List ℕ → S → Type 0) (s : S) (all : List ℕ) (t : S)
    (todo : List ℕ) : Type 0 where
  pub enough : fits s (length all)
  pub done : List ℕ
  pub split : all ≡ done ++ todo
  pub put : gives s done t

module _ {S : Type 0} {fits : S → ℕ → Type 0} {gives : S → List ℕ → S → Type 0} (sink : IsSink fits gives)
    {s : S} {all : List ℕ} where
  pub left-start : fits s (length all) → {todo : List ℕ} → all ≡ todo → Left fits gives s all s todo
  left-start f e = record { enough = f; done = []; split = e; put = sink.none s }

  pub left-done : {t : S} → Left fits gives s all t [] → gives s all t
  left-done {t} l = subst (λ (x : List ℕ). gives s x t) (sym (append-nil l.done) ∙ sym l.split) l.put

  -- all that is left fits
  pub left-fits-last : {t : S} {todo : List ℕ} → Left fits gives s all t todo → fits t (length todo)
  left-fits-last {t} {todo} l =
      let e = ap length l.split ∙ length-append l.done todo in
      sink.rest s t l.done (length todo) (subst (fits s) e l.enough) l.put

  -- what is put next fits
  pub left-fits : (bs rest : List ℕ) {t : S} → Left fits gives s all t (bs ++ rest) → fits t (length bs)
  left-fits bs rest {t} l =
      sink.front t (length bs) (length rest) (subst (fits t) (length-append bs rest) (left-fits-last l))

  pub left_step : (bs rest : List ℕ) {t u : S} → Left fits gives s all t (bs ++ rest) → gives t bs u
      → Left fits gives s all u rest
  left_step bs rest {t} {u} l p =
      let e = ap length l.split ∙ length-append l.done (bs ++ rest) in
      record {
        enough = l.enough;
        done = l.done ++ bs;
        split = l.split ∙ sym (append_assoc l.done bs rest);
        put =
            sink.more s t u l.done bs (sink.front s (length l.done) (length (bs ++ rest)) (subst (fits s) e l.enough))
            l.put p;
      }

  pub left-last : {bs : List ℕ} {t u : S} → Left fits gives s all t bs → gives t bs u → gives s all u
  left-last {bs} l p = left-done (left_step bs [] (rw (append-nil bs) l) p)
