-- The i-th record is at its place behind the first.
use Rattle.std.proofs.Common.{◌∙◌, sym, arith}
use Rattle.sound.specs.Sound.{ith_of}
use Rattle.layout.proofs.Rows.{peaks-length, peaks-at}
use Rattle.layout.proofs.views.RecordsInRecords.record.Goals as goal

pub overflow_mul-i : goal.overflow_mul-i
overflow_mul-i c =
    let s = c.args.self in
    record { fits = omega (arith, s.fits, peaks-length s.bytes.now s.at s.count, c.requires, c.ranges.self.0) }

pub overflow_add-self : goal.overflow_add-self
overflow_add-self c =
    let s = c.args.self in
    record { fits = omega (arith, s.fits, peaks-length s.bytes.now s.at s.count, c.requires, c.ranges.self.0) }

pub peak_from-requires : goal.peak_from-requires
peak_from-requires c =
    let s = c.args.self in
    omega (arith, s.fits, peaks-length s.bytes.now s.at s.count, c.requires)

pub returns : goal.returns
unfolding ith_of
returns c =
    let s = c.args.self in
    c.peak_from.ensures
    ∙ sym (peaks-at s.bytes.now s.at s.count c.args.i
    (omega (arith, peaks-length s.bytes.now s.at s.count, c.requires)))
