-- A turn lays the next record behind those laid before it.
use Rattle.std.proofs.Common.{◌*◌, ◌∙◌, ap, arith, List}
use Rattle.std.proofs.Math.Seq.{take-length}
use Rattle.relief.specs.Heights.{BLANK}
use Rattle.record.specs.declared.Peak.{Peak}
use Rattle.record.specs.Records.{without_key}
use Rattle.table.proofs.Grows.{take-grows}
use Rattle.words.specs.Words.{over}
use Rattle.layout.specs.Layout.{bytes_of, all_fields_of}
use Rattle.layout.proofs.Laid.{lays-start, lays_step, lays-done}
use Rattle.layout.proofs.records.lay_records.Goals as goal

pub loop-i-init : goal.loop-i-init
loop-i-init g c = lays-start (take-grows (g.R.Records.records c.args.records) (without_key 0 BLANK))

pub loop-i-preserved : goal.loop-i-preserved
loop-i-preserved g c =
    lays_step (take-grows (g.R.Records.records c.args.records) (without_key 0 BLANK)) c.loop-i.invariant
    (λ l. omega arith) (omega arith) c.record.ensures (omega arith) c.put_peak.ensures

pub returns : goal.returns
returns g c =
    let rs = g.R.Records.records c.args.records in
    lays-done (take-grows rs (without_key 0 BLANK)) c.loop-i.invariant (omega arith)
    ∙ ap (λ (ps : List Peak). over c.args.bytes.now (4 * c.args.at) (bytes_of (all_fields_of ps))) (take-length rs)
