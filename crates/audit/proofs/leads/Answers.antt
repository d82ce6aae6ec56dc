-- `leads`: a path without a cell, with another first cell or that leaves the ground does not lead out; for any other
-- its last cell decides, which is a cell at or above k. Assumes nothing.
use Rattle.std.proofs.Common.{arith, sym, ◌∙◌, ◌-◌, ◌<◌, length, get_or}
use Rattle.std.proofs.lemmas.Bool.{eqb-true, eqb-false}
use Rattle.relief.proofs.Tests.{decides-iff, refuted}
use Rattle.relief.proofs.Levels.{cut-land}
use Rattle.area.specs.Area.{level_in}
use Rattle.audit.proofs.Tops.{behind-same}
use Rattle.audit.proofs.PathRows.{leads-some, leads-first, leads_stays, leads-outranks, leads-of}
use Rattle.audit.proofs.leads.Goals as goal
use Rattle.audit.proofs.leads.Goals.{After-index-2, then-is_empty-via-then-is_empty}
use Rattle.audit.proofs.leads.Goals.{then-is_empty-via-else-is_empty+then-index-p}
use Rattle.audit.proofs.leads.Goals.{then-is_empty-via-else-is_empty+else-index-p+then-not-stays}

pub returns-then-is_empty : goal.returns-then-is_empty
returns-then-is_empty c = (
  refuted (λ h. elim c.then-is_empty.branch [
    | then-is_empty-via-then-is_empty w ↦
        let e = eqb-true _ _ (sym c.is_empty.ensures ∙ w.if-is_empty.true) in omega (arith, leads-some h)
    | then-is_empty-via-else-is_empty+then-index-p w ↦ w.if-index-p.true (w.index.ensures ∙ leads-first h)
    | then-is_empty-via-else-is_empty+else-index-p+then-not-stays w ↦
        w.stays.ensures.fails w.if-not-stays.true (leads_stays h)
  ]),
  behind-same _ _,
)

-- the path has a cell
some : (c : After-index-2) → 0 < length c.args.path.now
some c =
    let f = eqb-false _ _ (sym c.is_empty.ensures ∙ c.if-is_empty.false) in
    omega arith

pub outranks-requires : goal.outranks-requires
outranks-requires c =
    let last = length c.args.path.now - 1 in
    let high = (c.stays.ensures.holds c.if-not-stays.false last (omega (arith, some c))).0 in
    let (l, m) = cut-land c.args.grid.n (level_in c.args.work.now) (get_or c.args.path.now last 0)
    c.requires.land high in
    rw c.index-2.ensures (record {
      area = c.requires.area;
      cell = c.requires.cell;
      end = l;
      land = omega (arith, c.requires.land);
    })

pub returns : goal.returns
returns c =
    let (d, b) = c.outranks.ensures in (
      decides-iff
          (leads-of (some (goal.at.returns c).After-index-2) (sym c.index.ensures ∙ c.if-index-p.false)
          (c.stays.ensures.holds c.if-not-stays.false))
          leads-outranks (rw c.index-2.ensures at d),
      b,
    )
