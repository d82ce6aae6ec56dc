-- `outranks`: by the heights of the two cells, and where they are equal by the best cell q that the flood from e at
-- that height reaches. Levels are read before the flood, and that of q behind it, where it is the same. Assumes
-- nothing.
use Rattle.std.proofs.Common.{arith, ◌≡◌, sym, ◌∙◌, ltb-true, ltb-false, leb-true}
use Rattle.relief.specs.Peaks.{higher}
use Rattle.relief.specs.Inner.{cut}
use Rattle.relief.proofs.Levels.{cut_below}
use Rattle.relief.proofs.Plane.{plane-symmetric}
use Rattle.area.specs.Area.{level_in}
use Rattle.audit.proofs.Tops.{behind-same, flooded-behind}
use Rattle.audit.proofs.Twins.{outranks-lower, outranks-none, outranks-decides}
use Rattle.audit.proofs.outranks.Goals as goal
use Rattle.audit.proofs.outranks.Goals.{After-get-level, After-get}

-- ---- the two heights

own_is : (c : After-get-level) → c.get-own.result ≡ cut c.args.grid.n (level_in c.args.work.now) c.args.p
own_is c = c.get-own.ensures ∙ sym (cut_below c.args.grid.n (level_in c.args.work.now) c.args.p c.requires.cell)

level-is : (c : After-get-level) → c.get-level.result ≡ cut c.args.grid.n (level_in c.args.work.now) c.args.e
level-is c = c.get-level.ensures ∙ sym (cut_below c.args.grid.n (level_in c.args.work.now) c.args.e c.requires.end)

pub returns-then-level-own : goal.returns-then-level-own
returns-then-level-own c =
    let at = (goal.at.returns-then-level-own c).After-get-level in
    let own = own_is at in
    let level = level-is at in (
      record {
        holds = λ e. let l = ltb-true _ _ e in higher (omega arith);
        fails = λ e. let l = ltb-false _ _ e in let other = c.if-level-own.true in outranks-lower (omega arith);
      },
      behind-same _ _,
    )

-- ---- as high

same : (c : After-get) → c.get-level.result ≡ cut c.args.grid.n (level_in c.args.work.now) c.args.p
same c = c.if-level-own.false ∙ own_is (goal.at.After-get c).After-get-level

top-is : (c : After-get) → c.get.result ≡ cut c.args.grid.n (level_in c.args.work.now) c.top-q.result
top-is c =
    let h = c.top-q.ensures in
    c.get.ensures ∙ h.flooded.front c.top-q.result h.cell
    ∙ sym (cut_below c.args.grid.n (level_in c.args.work.now) c.top-q.result h.cell)

pub returns-then-get-level : goal.returns-then-get-level
returns-then-get-level c =
    let at = (goal.at.returns-then-get-level c).After-get in
    let h = c.top-q.ensures in
    let q = top-is at in (
      outranks-decides (same at) (level-is (goal.at.returns-then-get-level c).After-get-level) h.inside h.best
          (plane-symmetric c.args.grid.rows) (omega (arith, c.get-level.ensures, c.requires.land))
          (omega (arith, c.if-get-level.true)),
      flooded-behind h.flooded,
    )

pub returns-else-get-level : goal.returns-else-get-level
returns-else-get-level c =
    let at = (goal.at.returns-else-get-level c).After-get in
    let h = c.top-q.ensures in
    let q = top-is at in (
      record {
        holds = λ e. absurd (omega (arith, leb-true _ _ e, c.if-get-level.false));
        fails = λ e. outranks-none (same at) (level-is (goal.at.returns-else-get-level c).After-get-level) h.inside
            h.best (omega (arith, c.if-get-level.false));
      },
      flooded-behind h.flooded,
    )
