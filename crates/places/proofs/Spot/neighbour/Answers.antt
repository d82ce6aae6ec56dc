-- `Spot::neighbour`: of an inner cell each place is a cell. Around another each test shuts out one condition of a place
-- (above the first row, below the last, before the first column), and what is left is a place or is behind the limit.
-- Assumes nothing.
use Rattle.std.proofs.Common.{arith, sym}
use Rattle.places.proofs.PlaceAnswers.{inner-past, inner_below, inner-is, over_none, under_none, start_none, some-past}
use Rattle.places.proofs.PlaceAnswers.{place_none, place-some}
use Rattle.places.proofs.Spot.neighbour.Goals as goal
use Rattle.places.proofs.Spot.neighbour.Goals.{then-over_wall-via-then-over_wall}
use Rattle.places.proofs.Spot.neighbour.Goals.{then-over_wall-via-else-over_wall+then-under_wall}
use Rattle.places.proofs.Spot.neighbour.Goals.{then-over_wall-via-else-over_wall+else-under_wall+then-before_start}

pub place-requires : goal.place-requires
place-requires c =
    let a = c.args.self.around in
    inner-past a c.requires c.spread-k.ensures (c.args.self.whole c.if-self.true)

pub returns-then-self-clause-there : goal.returns-then-self-clause-there
returns-then-self-clause-there c =
    let a = c.args.self.around in
    let q = c.args.self.whole c.if-self.true in
    let k = c.spread-k.ensures in
    (inner-is a c.requires k q c.place.ensures, inner_below a c.requires k q c.place.ensures)

pub returns-then-over_wall-clause-absent : goal.returns-then-over_wall-clause-absent
returns-then-over_wall-clause-absent c =
    let a = c.args.self.around in
    let k = c.spread-k.ensures in
    elim c.then-over_wall.branch [
      | then-over_wall-via-then-over_wall w ↦
          sym (over_none a c.requires k w.if-over_wall.true c.over_wall.ensures)
      | then-over_wall-via-else-over_wall+then-under_wall w ↦
          sym (under_none a c.requires k w.if-under_wall.true w.under_wall.ensures)
      | then-over_wall-via-else-over_wall+else-under_wall+then-before_start w ↦
          sym (start_none a c.requires k w.if-before_start.true w.before_start.ensures)
    ]

pub place-y-requires : goal.place-y-requires
place-y-requires c =
    some-past c.args.self.around c.requires c.spread-k.ensures c.if-over_wall.false c.if-under_wall.false
    c.if-before_start.false c.over_wall.ensures c.under_wall.ensures c.before_start.ensures

pub returns-then-y-self-clause-there : goal.returns-then-y-self-clause-there
returns-then-y-self-clause-there c = (
  place-some c.args.self.around c.requires c.spread-k.ensures c.if-over_wall.false c.if-under_wall.false
      c.if-before_start.false c.over_wall.ensures c.under_wall.ensures c.before_start.ensures c.place-y.ensures
      c.if-y-self.true,
  c.if-y-self.true,
)

pub returns-else-y-self-clause-absent : goal.returns-else-y-self-clause-absent
returns-else-y-self-clause-absent c =
    let e = c.place-y.ensures in
    let f = c.if-y-self.false in
    sym (place_none c.args.self.around c.requires c.spread-k.ensures (λ p. omega (arith, p.inside)))
