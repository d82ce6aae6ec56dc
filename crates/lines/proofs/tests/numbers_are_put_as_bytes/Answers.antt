-- The numbers have 18 digits, and stand behind a byte.
use Rattle.std.proofs.Common.{arith, ◌+◌, ◌≤◌, length}
use Rattle.relief.specs.Outline.{decimal_of}
use Rattle.lines.specs.Sinks.{page_laws}
use Rattle.lines.proofs.Decimal.{decimal-most}
use Rattle.lines.proofs.tests.numbers_are_put_as_bytes.Goals as goal

all-fit : 1 + (length (decimal_of 0) + (length (decimal_of 1048575) + length (decimal_of 4294967295))) ≤ 20
all-fit =
    omega (
      arith,
      decimal-most 0 0 (omega arith),
      decimal-most 6 1048575 (omega arith),
      decimal-most 9 4294967295 (omega arith),
    )

pub put_number-requires : goal.put_number-requires
put_number-requires c = omega (arith, all-fit)

pub put_number-requires-2 : goal.put_number-requires-2
put_number-requires-2 c = page_laws.rest _ _ (decimal_of 0) _ (omega (arith, all-fit)) c.put_number.ensures

pub put_number-requires-3 : goal.put_number-requires-3
put_number-requires-3 c =
    let rest = page_laws.rest _ _ (decimal_of 0) _ all-fit c.put_number.ensures in
    page_laws.rest _ _ (decimal_of 1048575) _ rest c.put_number-2.ensures
