-- The records that an answer has may be laid, and the table with them is as promised (`handed-laid`).
use Rattle.std.specs.Prelude.{Result}
use Rattle.std.proofs.Common.{ℕ, ℤ, ◌*◌, ◌∙◌, sym, ap, subst, w64, to_z, arith}
use Rattle.record.specs.declared.Refusal.{Refusal}
use Rattle.table.proofs.Laws.{records-length}
use Rattle.table.specs.Inner.{records_in}
use Rattle.words.specs.Words.{over}
use Rattle.layout.specs.Layout.{bytes_of, all_fields_of}
use Rattle.layout.specs.Promises.{bytes_after}
use Rattle.layout.specs.Inner.{HandedOut}
use Rattle.layout.proofs.HandedBytes.{count-read, handed-laid}
use Rattle.layout.proofs.handed.hand_out.Goals as goal

pub lay_records-requires : goal.lay_records-requires
lay_records-requires c =
    let room = (c.requires c.in-Ok.count c.in-Ok.is).1 in
    omega (arith, records-length c.args.work.now c.args.cells c.index.result, c.index.ensures)

pub returns-in-Ok : goal.returns-in-Ok
returns-in-Ok c =
    let a = c.args in
    let n = c.in-Ok.count in
    let read = count-read n (omega arith) in
    let laid =
    c.lay_records.ensures
    ∙ ap (λ (k : ℕ). over a.table.now (4 * 0) (bytes_of (all_fields_of (records_in a.work.now a.cells k))))
    c.index.ensures
    ∙ handed-laid a.work.now a.cells a.table.now n in
    subst (λ (r : Result ℕ Refusal). HandedOut r a.work.now a.cells a.table.now c.lay_records.new.bytes (to_z w64 n))
    (sym c.in-Ok.is)
    (record {
      told = read;
      filled = laid ∙ ap (λ (z : ℤ). bytes_after z (records_in a.work.now a.cells n) a.table.now) (sym read);
    })
