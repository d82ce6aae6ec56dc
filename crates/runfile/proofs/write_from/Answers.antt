-- What `put_grid` leaves takes the records, and then the room holds the file.
use Rattle.std.proofs.Common.{ℕ, ◌∙◌, ◌+◌, ◌*◌, ◌≡◌, ap, sym, subst, arith, length}
use Rattle.words.specs.Words.{over}
use Rattle.layout.specs.Layout.{bytes_of, all_fields_of}
use Rattle.sound.specs.Inner.{index_of}
use Rattle.writer.specs.Inner.{Few}
use Rattle.writer.proofs.WriteAnswer.{found-few, found-first}
use Rattle.writer.proofs.Room.{grid-long, grid-written}
use Rattle.runfile.proofs.write_from.Goals as goal

pub put_grid-requires : goal.put_grid-requires
put_grid-requires g c =
    let few = found-few c.args.heights.now (g.R.Records.records c.args.records) c.first_unsound-unsound.result
    c.first_unsound-unsound.ensures in
    subst (λ (n : ℕ). Few (length c.args.heights.now) n c.first_unsound-unsound.result) (sym c.count.ensures) few

pub lay_records-requires : goal.lay_records-requires
lay_records-requires g c =
    let put = rw c.count.ensures at c.in_ok-total.ensures in
    let long = grid-long _ _ (g.R.Records.records c.args.records) _ _ _ put in
    omega (arith, long, c.put_grid.auto.room)

pub returns : goal.returns
returns g c =
    let hs = c.args.heights.now in
    let ps = g.R.Records.records c.args.records in
    let u = c.first_unsound-unsound.result in
    let put = rw c.count.ensures at c.in_ok-total.ensures in
    let place : 4 * (6 + length hs) ≡ 24 + 4 * length hs = omega arith in
    record {
      unsound = index_of u (length ps);
      first = found-first hs ps u c.first_unsound-unsound.ensures;
      answered = put.answered;
      room =
          grid-written c.args.rows hs ps _ _ _ put
          (c.lay_records.ensures
          ∙ ap (λ (k : ℕ). over c.put_grid.new.room k (bytes_of (all_fields_of ps))) place);
    }
