-- `account`: a call that a test refuses changes nothing. Where none does, the levels are loaded and swept, which tells
-- whether the cell is a peak's, and the account is drawn if the rows have room. Assumes nothing.
use mathlib.Core.Path.{refl, sym, ◌∙◌}
use native.Mathlib.Omega.{arith}
use lib.ListN.{length}
use Rattle.std.proofs.lemmas.Result.{err_from_is_err_and}
use Rattle.heights.specs.Inner.{GoodGrid}
use Rattle.heights.proofs.Answers.{grid-good, grid-loading}
use Rattle.survey.proofs.ListCalls.{grid-surveying}
use Rattle.account.proofs.Answers.{Asked, asked, level-low, level-high, account-refused}
use Rattle.account.proofs.Answers.{account-no-peak, account-short, account-drawable, account-made}
use Rattle.account.proofs.account.Goals as goal
use Rattle.account.proofs.account.Goals.{After-index-p, After-key_level-k}

-- the grid has passed its tests
good : (c : After-index-p) → let a = c.args in GoodGrid a.rows (length a.heights.now) (length a.work.now)
good c =
    let a = c.args in
    grid-good a.rows (length a.heights.now) (length a.work.now) (sym c.check.ensures ∙ c.in_ok-check.was)

pub returns-in_err-check : goal.returns-in_err-check
returns-in_err-check c =
    let a = c.args in
    let p = err_from_is_err_and c.from_residual.result c.from_residual.ensures.1 in
    rw (p.1, p.2)
    (account-refused a.rows a.heights.now a.cell a.work.now a.path.now a.island.now
    (sym c.check.ensures ∙ c.in_err-check.was) refl)

pub load-requires : goal.load-requires
load-requires c = grid-loading (good (goal.at.load-requires c).After-index-p) refl refl

pub key_level-k-requires : goal.key_level-k-requires
key_level-k-requires c =
    grid-surveying (good (goal.at.key_level-k-requires c).After-index-p) refl c.load.ensures c.index.ensures

pub level_at-requires : goal.level_at-requires
level_at-requires c =
    let w =
    grid-surveying (good (goal.at.level_at-requires c).After-index-p) refl c.load.ensures c.index.ensures in
    record { few = w.area.few; room = omega (arith, w.area.room, c.key_level-k.ensures.len) }

-- whether the cell is a peak's is known
known : (c : After-key_level-k) → let a = c.args in
    Asked a.rows a.heights.now a.cell a.work.now c.key_level-k.new.work c.key_level-k.result
known c = asked refl c.index.ensures c.index-p.ensures c.load.ensures c.key_level-k.ensures

pub returns-in_err-refuse_if : goal.returns-in_err-refuse_if
returns-in_err-refuse_if c =
    let at = goal.at.returns-in_err-refuse_if c in
    let a = c.args in
    let h = known at.After-key_level-k in
    let f = c.from_residual-in_err-refuse_if in
    let p = err_from_is_err_and f.result f.ensures.1 in
    rw (p.1, p.2, c.in_err-refuse_if.ensures.0)
    (account-no-peak a.path.now a.island.now (good at.After-index-p) h
    (level-low h refl c.index-p.ensures c.level_at.ensures (grind arith)))

pub returns-in_err-refuse_if-2 : goal.returns-in_err-refuse_if-2
returns-in_err-refuse_if-2 c =
    let at = goal.at.returns-in_err-refuse_if-2 c in
    let a = c.args in
    let h = known at.After-key_level-k in
    let above = level-high h refl c.index-p.ensures c.level_at.ensures (grind arith) in
    let f = c.from_residual-in_err-refuse_if-2 in
    let p = err_from_is_err_and f.result f.ensures.1 in
    rw (p.1, p.2, c.in_err-refuse_if-2.ensures.0)
    (account-short a.path.now a.island.now (good at.After-index-p) h above
    c.short_rows-short.ensures c.in_err-refuse_if-2.ensures.1)

pub draw-requires : goal.draw-requires
draw-requires c =
    let at = goal.at.draw-requires c in
    let a = c.args in
    let h = known at.After-key_level-k in
    let above = level-high h refl c.index-p.ensures c.level_at.ensures (grind arith) in
    account-drawable a.path.now a.island.now (good at.After-index-p) h above c.short_rows-short.ensures
    c.in_ok-refuse_if-2.ensures refl c.index-2.ensures c.index-p.ensures

pub returns : goal.returns
returns c =
    let at = goal.at.returns c in
    let a = c.args in
    let h = known at.After-key_level-k in
    let above = level-high h refl c.index-p.ensures c.level_at.ensures (grind arith) in
    account-made a.path.now a.island.now (good at.After-index-p) h above c.short_rows-short.ensures
    c.in_ok-refuse_if-2.ensures refl c.index-2.ensures c.index-p.ensures c.draw.ensures
