-- A turn puts the last two digits of the rest before those that are laid; then one or two are left.
use Rattle.std.proofs.Common.{arith}
use lib.ListN.{length-set}
use Rattle.lines.proofs.Digits.{digits-start, digits-fits, digits-length, digits-place, digits-one, place-two}
use Rattle.lines.proofs.Digits.{digits-pair, digits-two}
use Rattle.lines.proofs.numerals.put_digits.Goals as goal

pub loop-rest-init : goal.loop-rest-init
loop-rest-init c = digits-start c.args.text.now c.args.at c.args.v c.requires.0 c.requires.1

-- ---- a turn

pub overflow_sub-place : goal.overflow_sub-place
overflow_sub-place c = omega (arith, place-two c.loop-rest.invariant (omega (arith, c.loop-rest-test.true)))

pub bounds-text-place : goal.bounds-text-place
bounds-text-place c =
    let d = c.loop-rest.invariant in
    omega (arith, place-two d (omega (arith, c.loop-rest-test.true)), digits-length d, digits-fits d)

pub bounds-text-place-in-loop-rest : goal.bounds-text-place-in-loop-rest
bounds-text-place-in-loop-rest c =
    let d = c.loop-rest.invariant in
    simp length-set
    (omega (arith, place-two d (omega (arith, c.loop-rest-test.true)), digits-length d, digits-fits d))

pub loop-rest-preserved : goal.loop-rest-preserved
loop-rest-preserved c =
    digits-pair c.loop-rest.invariant c.loop-rest-test.true c.digit.ensures c.digit-in-loop-rest.ensures

-- ---- the last two digits

pub bounds-text-at : goal.bounds-text-at
bounds-text-at c =
    let d = c.loop-rest.invariant in
    omega (arith, place-two d c.if-rest-ge10.true, digits-length d, digits-fits d)

pub bounds-text-at-then-rest-ge10 : goal.bounds-text-at-then-rest-ge10
bounds-text-at-then-rest-ge10 c =
    let d = c.loop-rest.invariant in
    simp length-set (omega (arith, digits-place d, digits-length d, digits-fits d))

pub returns-then-rest-ge10 : goal.returns-then-rest-ge10
returns-then-rest-ge10 c =
    digits-two c.loop-rest.invariant c.if-rest-ge10.true c.loop-rest-test.false c.digit-then-rest-ge10.ensures
    c.digit-then-rest-ge10-2.ensures

-- ---- the last digit

pub bounds-text-at-2 : goal.bounds-text-at-2
bounds-text-at-2 c =
    let d = c.loop-rest.invariant in
    omega (arith, digits-place d, digits-length d, digits-fits d)

pub returns : goal.returns
returns c = digits-one c.loop-rest.invariant c.if-rest-ge10.false c.digit-2.ensures
