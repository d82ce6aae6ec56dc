-- Between two powers of ten all numbers have as many digits.
use Rattle.std.proofs.Common.{sym, arith}
use Rattle.lines.proofs.Decimal.{decimal-one, decimal-many}
use Rattle.lines.proofs.numerals.digits.Goals as goal

pub returns-then-v-lt10 : goal.returns-then-v-lt10
returns-then-v-lt10 c = sym (decimal-one c.args.v c.if-v-lt10.true)

pub returns-then-v-lt100 : goal.returns-then-v-lt100
returns-then-v-lt100 c = sym (decimal-many 0 c.if-v-lt10.false c.if-v-lt100.true)

pub returns-then-v-lt1000 : goal.returns-then-v-lt1000
returns-then-v-lt1000 c = sym (decimal-many 1 c.if-v-lt100.false c.if-v-lt1000.true)

pub returns-then-v-lt10000 : goal.returns-then-v-lt10000
returns-then-v-lt10000 c = sym (decimal-many 2 c.if-v-lt1000.false c.if-v-lt10000.true)

pub returns-then-v-lt100000 : goal.returns-then-v-lt100000
returns-then-v-lt100000 c = sym (decimal-many 3 c.if-v-lt10000.false c.if-v-lt100000.true)

pub returns-then-v-lt1000000 : goal.returns-then-v-lt1000000
returns-then-v-lt1000000 c = sym (decimal-many 4 c.if-v-lt100000.false c.if-v-lt1000000.true)

pub returns-then-v-lt10000000 : goal.returns-then-v-lt10000000
returns-then-v-lt10000000 c = sym (decimal-many 5 c.if-v-lt1000000.false c.if-v-lt10000000.true)

pub returns-then-v-lt100000000 : goal.returns-then-v-lt100000000
returns-then-v-lt100000000 c = sym (decimal-many 6 c.if-v-lt10000000.false c.if-v-lt100000000.true)

pub returns-then-v-lt1000000000 : goal.returns-then-v-lt1000000000
returns-then-v-lt1000000000 c = sym (decimal-many 7 c.if-v-lt100000000.false c.if-v-lt1000000000.true)

pub returns : goal.returns
returns c = sym (decimal-many 8 c.if-v-lt1000000000.false (omega (arith, c.ranges.v.fits)))
