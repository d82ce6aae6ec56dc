-- The promise of the outline allows one outcome: the text is one, and answer and text room are computed from it.
--     outlined-differ     two answers that tell the same are one: the refusal can be read back from what it tells
--     outlines-unique     one answer, one text room, one work area but for the bytes that are used
-- Assumes nothing.
use Rattle.record.specs.declared.Refusal.{Refusal}
use Rattle.std.specs.Prelude.{Result, Ok, Err}
use mathlib.Core.Path.{◌≡◌, sym, ap, ap₂, ◌∙◌}
use mathlib.Core.List.{List, [], ◌∷◌}
use Prim.Native.Nat.{ℕ}
use lib.ListN.{length, get_or}
use Rattle.relief.proofs.Families.{outline-unique}
use Rattle.record.specs.Refusals.{Told}
use Rattle.record.proofs.Refusals.{refusals-differ, told-refused}
use Rattle.table.proofs.Handed.{worked-unique}
use Rattle.outline.specs.Promises.{outline_tests, outline_by, text_after}
use Rattle.outline.specs.Claims.{OutlinedDiffer, OutlineUnique}

pub outlined-differ : OutlinedDiffer
outlined-differ (Ok n) (Ok m) e = ap (λ (t : Told). Ok (get_or t.values 0 0)) e
outlined-differ (Ok n) (Err r) e = told-refused r (n ∷ []) (sym e)
outlined-differ (Err r) (Ok n) e = told-refused r (n ∷ []) e
outlined-differ (Err r) (Err q) e = ap Err (refusals-differ r q e)

pub outlines-unique : OutlineUnique
outlines-unique run grid levels work w v room t u a b h k =
    let e : h.text ≡ k.text = outline-unique h.right k.right in
    let tests = outline_tests run (length grid) levels (length work) in
    let q : a ≡ b = outlined-differ a b (h.answered
    ∙ ap (λ (x : List ℕ). outline_by tests (length room) (length x)) e ∙ sym k.answered) in (
      q,
      h.written ∙ ap₂ (λ (x : Result ℕ Refusal) (y : List ℕ). text_after x y room) q e ∙ sym k.written,
      worked-unique h.worked k.worked,
    )
