-- `check`: a call that a test refuses changes nothing. Where none does, the levels are loaded, and what the check finds
-- is the answer. Assumes nothing.
use mathlib.Core.Path.{refl, sym, ◌∙◌, ap}
use lib.ListN.{length}
use mir.Syntax.{w32}
use mir.ValLaws.{to_z-of_z}
use Rattle.std.proofs.lemmas.Result.{err_from_is_err_and}
use Rattle.relief.specs.Heights.{level_of}
use Rattle.words.proofs.Laws.{Bytes}
use Rattle.heights.specs.Inner.{GoodGrid}
use Rattle.heights.proofs.Answers.{grid-good, grid-loading}
use Rattle.account.proofs.Verdicts.{grid-auditing, Checked, checked, check-refused, check-found}
use Rattle.account.proofs.check.Goals as goal
use Rattle.account.proofs.check.Goals.{After-load, After-judge-found}

pub returns-in_err-check : goal.returns-in_err-check
returns-in_err-check c =
    let a = c.args in
    let p = err_from_is_err_and c.from_residual.result c.from_residual.ensures.1 in
    rw (p.1, p.2)
    (check-refused a.rows a.heights.now a.cell a.key a.path.now a.island.now a.work.now
    (sym c.check.ensures ∙ c.in_err-check.was) refl)

-- the grid has passed its tests
good : (c : After-load) → let a = c.args in GoodGrid a.rows (length a.heights.now) (length a.work.now)
good c =
    let a = c.args in
    grid-good a.rows (length a.heights.now) (length a.work.now) (sym c.check.ensures ∙ c.in_ok-check.was)

pub load-requires : goal.load-requires
load-requires c =
    let a = c.args in
    grid-loading (grid-good a.rows (length a.heights.now) (length a.work.now) (sym c.check.ensures ∙ c.in_ok-check.was))
    refl refl

pub judge-found-requires : goal.judge-found-requires
judge-found-requires c =
    grid-auditing (good (goal.at.judge-found-requires c).After-load) refl c.load.ensures c.index.ensures

-- what the check has found
found : (c : After-judge-found) → Bytes c.judge-found.new.work
    → let a = c.args in
    Checked a.rows a.heights.now a.cell a.key a.path.now a.island.now a.work.now c.judge-found.new.work
    c.judge-found.result
found c bytes =
    checked refl c.index.ensures c.index-2.ensures
    (c.level-k.ensures ∙ ap level_of (to_z-of_z w32 c.args.key c.ranges.key))
    c.load.ensures c.judge-found.ensures c.slice_known-2-1.given bytes

pub returns : goal.returns
returns c =
    let at = goal.at.returns c in
    rw c.ok_or.ensures.value
    (check-found (good at.After-load) c.judge-found.result
    (found at.After-judge-found c.type_inv.work))
