-- The claims hold: what is written is one (`write-unique` of `runfile`), and so is the answer to a file
-- (`answers-unique` of `reader`). Assumes nothing.
use Rattle.record.specs.declared.Refusal.{Refusal}
use Rattle.std.specs.Prelude.{Result, ℕ}
use mathlib.Core.List.{◌++◌}
use mathlib.Core.Path.{◌≡◌, sym, ap, ◌∙◌}
use lib.IntN.{ℤ}
use lib.ListN.{drop}
use Rattle.layout.specs.declared.ReadBack.{ReadBack}
use Rattle.layout.specs.Layout.{heights_in, records_from, cells_in, peaks_in}
use Rattle.layout.specs.Promises.{written_told, lent_after, signed_told, bytes_after}
use Rattle.reader.proofs.ReadAnswer.{answers-unique}
use Rattle.runfile.proofs.Claims as runfile
use Rattle.meter_files.specs.Promises.{count_told}
use Rattle.meter_files.specs.Claims.{MeterWriteUnique, MeterReadUnique, Claims}

meter-write-unique : MeterWriteUnique
meter-write-unique rows heights records room r r' a b p q =
    let e = (runfile.claims).write-unique rows heights _ room r r' p.written q.written p.writes q.writes in
    (p.answered ∙ ap (λ (x : Result ℕ Refusal). signed_told (written_told x)) e.0 ∙ sym q.answered, e.1)

meter-read-unique : MeterReadUnique
meter-read-unique f heights h h' table t t' a b p q =
    let e = answers-unique p.read q.read in
    let hs = heights_in f (cells_in f) ++ drop (cells_in f) heights in
    let same : a ≡ b = p.answered
    ∙ ap (λ (x : Result ReadBack Refusal). signed_told (count_told x)) e ∙ sym q.answered in (
      same,
      p.heights ∙ ap (λ (x : Result ReadBack Refusal). lent_after x hs heights) e ∙ sym q.heights,
      p.filled ∙ ap (λ (z : ℤ). bytes_after z (records_from f (cells_in f) (peaks_in f)) table) same ∙ sym q.filled,
    )

pub claims : Claims
claims = record {
  meter-write-unique = meter-write-unique;
  meter-read-unique = meter-read-unique;
}
