-- The digits stand at the front of the field, which has room for any number's.
use Rattle.std.proofs.Common.{◌≡◌, sym, ap, subst, ◌∙◌, ℕ, List, ◌≤◌, arith, length, take}
use Rattle.std.proofs.Math.Seq.{take-append_seam}
use Rattle.words.specs.Words.{over}
use Rattle.words.proofs.Over.{over-front, over-length}
use Rattle.lines.proofs.Lengths.{decimal-length}
use Rattle.lines.proofs.sinks.Sink.put_number.Goals as goal

front-taken : (s bs : List ℕ) {t : List ℕ} {n : ℕ} → n ≡ length bs → t ≡ over s 0 bs → take n t ≡ bs
front-taken s bs e laid = rw (laid, e, over-front s bs) (take-append_seam bs _)

front-length : (s bs : List ℕ) {t : List ℕ} → t ≡ over s 0 bs → length bs ≤ length s → length t ≡ length s
front-length s bs laid l = ap length laid ∙ over-length s 0 bs (omega arith)

pub put_digits-requires : goal.put_digits-requires
put_digits-requires g c =
    let e = c.digits-count.ensures in
    (e, omega (arith, e, decimal-length c.args.v (omega (arith, c.ranges.v.fits))))

pub slice_bounds-field-end : goal.slice_bounds-field-end
slice_bounds-field-end g c =
    let most = decimal-length c.args.v (omega (arith, c.ranges.v.fits)) in
    let same : length c.put_digits.new.text ≡ 10 = front-length _ _ c.put_digits.ensures most in
    omega (arith, c.digits-count.ensures, most, same)

pub slice_bounds-put-end : goal.slice_bounds-put-end
slice_bounds-put-end g c =
    let e = c.digits-count.ensures in e ∙ sym (ap length (front-taken _ _ e c.put_digits.ensures))

pub put-requires : goal.put-requires
put-requires g c =
    subst (λ (ds : List ℕ). g.Self.Sink.fits c.args.self.now (length ds))
    (sym (front-taken _ _ c.digits-count.ensures c.put_digits.ensures)) c.requires

pub returns : goal.returns
returns g c =
    subst (λ (ds : List ℕ). g.Self.Sink.put_gives c.args.self.now ds c.put.new.self)
    (front-taken _ _ c.digits-count.ensures c.put_digits.ensures) c.put.ensures
