-- The first i records are laid over the bytes, from their place on.
use Rattle.std.proofs.Common.{◌*◌, length, take}
use Rattle.layout.proofs.Laid.{Lays}
use Rattle.layout.proofs.records.lay_records.Given as goal

abbrev pub invariant-loop-i : goal.invariant-loop-i
invariant-loop-i g l =
    let rs = g.R.Records.records l.records in
    Lays l.fn.bytes (4 * l.at) (λ k. take k rs) (length rs) l.bytes l.i
