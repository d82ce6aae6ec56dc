-- `crest`: the flood at k + 1 tells whether it is the best cell. Assumes nothing.
use Rattle.std.proofs.Common.{arith, add-one}
use Rattle.audit.proofs.Tops.{crest-told}
use Rattle.audit.proofs.crest.Goals as goal

pub returns-then-k-get : goal.returns-then-k-get
returns-then-k-get c = crest-told c.top.ensures c.requires.1 (add-one c.args.k) (omega (arith, c.get.ensures))
