-- The levels are loaded and surveyed, and the room decides between 5 and the count.
use Rattle.std.proofs.Common.{refl, arith}
use Rattle.relief.specs.Plane.{plane_of}
use Rattle.survey.proofs.ListCalls.{list-made}
use Rattle.survey.proofs.made.Goals as goal

pub load_from-requires : goal.load_from-requires
load_from-requires g c =
    let r = c.requires in
    record {
      area = record {
        few = omega (arith, r.fits, c.count-n.ensures);
        room = omega (arith, r.space, c.count-n.ensures);
      };
      all = omega (arith, c.count-n.ensures);
    }

pub whole-count-requires : goal.whole-count-requires
whole-count-requires g c =
    let r = c.requires in
    record {
      area = record {
        few = omega (arith, r.fits, c.count-n.ensures);
        room = omega (arith, r.space, c.count-n.ensures, c.load_from.ensures.len);
      };
      rows_some = omega (arith, r.some, c.index.ensures);
      rows_few = omega (arith, r.few, c.index.ensures);
    }

pub room_answer-requires : goal.room_answer-requires
room_answer-requires g c =
    omega (arith, c.whole-count.ensures.counted.few, c.requires.fits, c.count-n.ensures)

pub returns : goal.returns
returns g c tests good =
    let hs = g.H.Heights.heights c.args.heights in
    let loaded = rw c.count-n.ensures at c.load_from.ensures in
    let counted = rw (c.count-n.ensures, c.index.ensures) at c.whole-count.ensures in
    list-made tests (plane_of c.args.rows) c.args.threshold c.args.room hs good refl loaded counted
    c.room_answer.ensures
