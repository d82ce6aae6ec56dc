-- `print`: where there is room for what was counted, it is what is written. Assumes nothing.
use Rattle.std.proofs.Common.{arith}
use Rattle.outline.proofs.Answers.{printed_whole}
use Rattle.outline.proofs.print.Goals as goal

pub returns : goal.returns
returns c =
    printed_whole c.requires c.args.text.now (omega arith) (grind arith) (grind arith) c.narrow.ensures
