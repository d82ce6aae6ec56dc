-- `reach`: an open cell is put behind the queue. Assumes nothing.
use Rattle.std.proofs.Common.{refl, ◌∙◌, sym}
use Rattle.flood.specs.Inner.{put}
use Rattle.flood.proofs.reach.Goals as goal

pub returns : goal.returns
returns c =
    let (e, inside) = c.in-Some.ensures.there in
    rw (← e) (put inside (sym (c.index.ensures ∙ c.get.ensures) ∙ c.if-index-n.false) c.put.new.s
    (rw c.narrow.ensures at c.put.ensures) (rw c.narrow-2.ensures at c.put-2.ensures) refl)
