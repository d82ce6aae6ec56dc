-- `is_ground`: behind the grid's end the level that counts is 0, and before it that of the work area. Assumes nothing.
use Rattle.std.proofs.Common.{arith, ltb-true}
use Rattle.relief.proofs.Levels.{cut_below, cut-behind}
use Rattle.relief.proofs.Tests.{le-decides}
use Rattle.area.specs.Area.{level_in}
use Rattle.audit.proofs.is_ground.Goals as goal

pub returns-then-c-n : goal.returns-then-c-n
returns-then-c-n c =
    let a = c.args in
    rw (cut_below a.n (level_in a.work.now) a.c c.if-c-n.true, ← c.get.ensures) (le-decides a.k c.get.result)

pub returns-else-c-n : goal.returns-else-c-n
returns-else-c-n c =
    let a = c.args in
    let e = cut-behind a.n (level_in a.work.now) a.c c.if-c-n.false in
    record {
      holds = λ q. absurd (omega (arith, ltb-true _ _ q, c.if-c-n.false));
      fails = λ q l. omega (arith, c.requires.1);
    }
