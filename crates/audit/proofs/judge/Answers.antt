-- `judge`: `crest` floods the island; where it says yes, the cell is a peak's, and path and island decide; where it
-- says no there is no account with k, and `is_peak` tells the rest. Assumes nothing.
use Rattle.relief.specs.Inner.{cut}
use Rattle.relief.specs.Plane.{plane_of, touch_of}
use Rattle.relief.proofs.Flats.{Terrain}
use Rattle.relief.proofs.Plane.{plane?}
use Rattle.places.proofs.PlanePlaces.{cut-terrain}
use Rattle.area.specs.Area.{level_in}
use Rattle.audit.proofs.Findings.{found-outside, found_none, found-peak, found-account}
use Rattle.audit.proofs.judge.Goals as goal
use Rattle.audit.proofs.judge.Goals.{After-crest}

pub returns-then-n-p : goal.returns-then-n-p
returns-then-n-p c = found-outside c.if-n-p.true

terrain : (c : After-crest) → let a = c.args in
    Terrain (touch_of (plane_of a.rows)) (plane? a.rows) (cut a.n (level_in a.work.now)) a.n
terrain c = cut-terrain c.args.rows c.args.n (level_in c.args.work.now)

pub returns-then-crest : goal.returns-then-crest
returns-then-crest c =
    found-account (terrain (goal.at.returns-then-crest c).After-crest) c.if-n-p.false c.crest.ensures c.if-crest.true
    c.accounts.ensures

pub returns-then-is_peak : goal.returns-then-is_peak
returns-then-is_peak c =
    found-peak (terrain (goal.at.returns-then-is_peak c).After-crest) c.if-n-p.false c.crest.ensures c.is_peak.ensures
    c.if-crest.false c.if-is_peak.true

pub returns-else-is_peak : goal.returns-else-is_peak
returns-else-is_peak c =
    found_none (terrain (goal.at.returns-else-is_peak c).After-crest) c.if-n-p.false c.crest.ensures c.is_peak.ensures
    c.if-is_peak.false
