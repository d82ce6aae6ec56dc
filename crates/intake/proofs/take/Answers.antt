-- `take`: a run that is read has no more cells than heights were lent. Assumes nothing.
use Rattle.std.proofs.Common.{◌≡◌, List, ℕ, ℤ, ◌*◌, ◌≤◌, length, Result, Ok, Err, IfOk, arith}
use Rattle.record.specs.declared.Refusal.{Refusal}
use Rattle.layout.specs.declared.ReadBack.{ReadBack}
use Rattle.reader.specs.Inner.{GridTaken}
use Rattle.reader.proofs.ReadAnswer.{read-readable, read-cells}
use Rattle.intake.proofs.take.Goals as goal

inside : {f : List ℕ} {hs hs' : List ℤ} {table : ℕ} (a : Result ReadBack Refusal) → GridTaken f hs hs' table a
    → length hs' ≡ length hs → IfOk a (λ run. run.rows * run.columns ≤ length hs')
inside {f} {hs} {hs'} {table} (Ok run) h e =
    let r = read-readable f (length hs) table h.answer.unsound h.answer.answered in
    let c = read-cells f (length hs) table h.answer.unsound h.answer.answered in
    omega (arith, r.room, c, e)
inside (Err refusal) h e = tt

pub returns : goal.returns
returns c = inside c.take_grid.result c.take_grid.ensures c.take_grid.auto.heights
