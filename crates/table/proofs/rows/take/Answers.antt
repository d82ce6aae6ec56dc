-- A record stored is one more of the row.
use Rattle.std.proofs.Common.{arith, ◌≡◌, ◌∙◌, length, take, drop, ◌++◌, List, ap}
use Rattle.std.proofs.Math.Seq.{take-length}
use Rattle.relief.specs.Heights.{BLANK}
use Rattle.record.specs.Records.{without_key}
use Rattle.record.specs.declared.Peak.{Peak}
use Rattle.table.proofs.Grows.{filled, filled-next, take-grows}
use Rattle.table.proofs.rows.take.Goals as goal

pub loop-i-preserved : goal.loop-i-preserved
loop-i-preserved g c =
    let rs = g.R.Records.records c.args.records in
    filled-next (take-grows rs (without_key 0 BLANK)) c.args.table.now c.loop-i.i (omega arith) (omega arith)
    c.loop-i.table c.record.result c.loop-i.invariant c.record.ensures

pub returns : goal.returns
returns g c =
    let rs = g.R.Records.records c.args.records in
    let e : c.loop-i.i ≡ length rs = omega arith in
    c.loop-i.invariant ∙ ap (filled (λ k. take k rs) c.args.table.now) e
    ∙ ap (λ (xs : List Peak). xs ++ drop (length rs) c.args.table.now) (take-length rs)
