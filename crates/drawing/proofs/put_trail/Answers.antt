-- `put_trail`: while a cell is left, j is a place of the queue. Each trail to one place is the same. Assumes nothing.
use Rattle.std.proofs.Common.{arith, refl, ◌≤◌, ◌<◌, ◌∙◌, ◌≡◌, ℕ, List, length}
use Rattle.drawing.specs.Inner.{TrailIn, Trailing}
use Rattle.drawing.proofs.Trails.{lays-start, lays-place, lays_step, lays-done}
use Rattle.drawing.proofs.put_trail.Goals as goal
use Rattle.drawing.proofs.put_trail.Goals.{In-loop-i}

-- the row has room for each trail to the place
room : {s : List ℕ} {n at len : ℕ} (row : List ℕ) → Trailing s n at × (len ≤ n) × (n ≤ length row)
    × ((l : List ℕ) → TrailIn s n at l → len ≡ length l) → (t : Trailing s n at) → length t.row ≤ length row
room row (u, few, wide, told) t = let e = told t.row t.trail in omega arith

pub loop-i-init : goal.loop-i-init
loop-i-init c t = lays-start t (room c.args.row.now c.requires t) (c.requires.3 t.row t.trail)

place : (c : In-loop-i) → c.loop-i.j < c.requires.0.count
place c =
    let t = c.requires.0 in
    lays-place t (room c.args.row.now c.requires t) (c.loop-i.invariant t) c.loop-i-test.true

pub queued-requires : goal.queued-requires
queued-requires c =
    let t = c.requires.0 in
    let l = place (goal.at.queued-requires c).In-loop-i in
    (t.area, omega (arith, t.few))

pub narrow-requires : goal.narrow-requires
narrow-requires c =
    let t = c.requires.0 in
    let l = t.cells _ (place (goal.at.narrow-requires c).In-loop-i) in
    omega (arith, c.queued.ensures, t.area.few)

pub came_from-j-requires : goal.came_from-j-requires
came_from-j-requires c =
    let t = c.requires.0 in
    let l = place (goal.at.came_from-j-requires c).In-loop-i in
    (t.area, omega (arith, t.few), t.cells _ l)

pub loop-i-preserved : goal.loop-i-preserved
loop-i-preserved c t =
    let l = c.loop-i-test.true in
    lays_step t (room c.args.row.now c.requires t) (c.loop-i.invariant t) (omega arith)
    (c.narrow.ensures ∙ c.queued.ensures) refl c.came_from-j.ensures

pub returns : goal.returns
returns c =
    let t = c.requires.0 in
    lays-done t (room c.args.row.now c.requires t) (c.loop-i.invariant t) c.loop-i-test.false
    (c.requires.3 t.row t.trail)
