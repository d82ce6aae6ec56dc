-- `link`, the peaks hung and then the passes threaded, if any cell is not blank (`kin-blank`). A pass is no peak
-- (`uppers-hanging`), its noted top is a listed peak (`rows-threading`), and the rows that are left are the children of
-- the definitions (`kin-linked`). Assumes nothing.
use Rattle.std.proofs.Common.{arith}
use Rattle.area.specs.Area.{level_in}
use Rattle.places.proofs.PlanePlaces.{cut-terrain}
use Rattle.kin.proofs.Uppers.{uppers-hanging}
use Rattle.kin.proofs.LinkedRows.{rows-threading}
use Rattle.kin.proofs.Kinship.{kin-linked, kin-blank}
use Rattle.kin.proofs.link.Goals as goal

pub hang_peaks-requires : goal.hang_peaks-requires
hang_peaks-requires c =
    let a = c.args in
    uppers-hanging (cut-terrain a.rows a.n (level_in a.work.now)) c.requires a.threshold

pub thread_passes-requires : goal.thread_passes-requires
thread_passes-requires c =
    let a = c.args in
    rows-threading (cut-terrain a.rows a.n (level_in a.work.now)) c.requires c.hang_peaks.ensures

pub returns-then-m-gt0 : goal.returns-then-m-gt0
returns-then-m-gt0 c =
    let a = c.args in
    kin-linked (cut-terrain a.rows a.n (level_in a.work.now)) c.requires c.hang_peaks.ensures c.thread_passes.ensures
    (λ k. omega (arith, c.type_inv.work k))

pub returns-else-m-gt0 : goal.returns-else-m-gt0
returns-else-m-gt0 c =
    let a = c.args in
    kin-blank a.threshold (cut-terrain a.rows a.n (level_in a.work.now)) c.requires (omega arith)
    (λ k. omega (arith, c.type_inv.work k))
