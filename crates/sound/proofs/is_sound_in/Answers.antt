-- What its cell and its pass cell hold decides whether a record is sound.
use Rattle.std.proofs.Common.{sym}
use Rattle.sound.proofs.Cells.{fetched}
use Rattle.sound.proofs.is_sound_in.Goals as goal

pub returns : goal.returns
returns g c =
    let hs = g.H.Heights.heights c.args.heights in
    let here = c.height_at-here in
    let there = c.height_at-there in
    c.is_sound.ensures hs (sym c.count.ensures)
    (fetched hs (record { sfits = here.type_inv }) here.ensures c.index.ensures)
    (fetched hs (record { sfits = there.type_inv }) there.ensures c.index-2.ensures)
