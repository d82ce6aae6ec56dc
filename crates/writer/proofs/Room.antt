-- What `write` lays into its room: header and heights as `put_grid` leaves them, and the records behind them.
--     grid-long         where the answer is a number of bytes, the room has them
--     grid-written      the room with the records in it is the file, and then what it was behind it
-- Assumes nothing.
use Rattle.std.specs.Prelude.{Ok}
use mathlib.Core.Path.{◌≡◌, sym, ap, ◌∙◌}
use mathlib.Core.List.{List, ◌++◌, map}
use Prim.Native.Nat.{ℕ, ◌+◌, ◌*◌, ◌≤◌}
use native.Mathlib.Omega.{arith}
use lib.IntN.{ℤ}
use lib.ListN.{length, drop, length-append, length-map}
use Rattle.record.specs.declared.Peak.{Peak}
use Rattle.words.specs.Words.{over}
use Rattle.words.proofs.Over.{over-front, over-over}
use Rattle.layout.specs.Layout.{bits_of, bytes_of, total_of, header_of, all_fields_of, numbers_of, file_of}
use Rattle.layout.proofs.Files.{file-length}
use Rattle.layout.proofs.Rows.{bytes-length, bytes-append}
use Rattle.writer.specs.Inner.{GridPut}
use Rattle.writer.proofs.WriteAnswer.{written-writable}

-- ---- all that is laid

module _ (rows : ℕ) (hs : List ℤ) (ps : List Peak) (k : ℕ) (ys zs : List ℕ) where
  abbrev front : List ℕ
  front = header_of rows (length hs) (length ps) ++ map bits_of hs

  front_bytes : length (bytes_of front) ≡ 24 + 4 * length hs
  unfolding header_of
  front_bytes =
      bytes-length front
      ∙ omega (arith, length-append (header_of rows (length hs) (length ps)) (map bits_of hs), length-map hs bits_of)

  -- where the answer is a number of bytes, the room has them ..
  pub grid-long : {b : ℕ} → GridPut rows hs (length ps) k ys zs (Ok b) → total_of (length hs) (length ps) ≤ length ys
  grid-long g = (written-writable rows (length hs) (length ps) k (length ys) _ g.answered).long

  -- .. and with the records behind header and heights it holds the file
  pub grid-written : {b : ℕ} {ts : List ℕ} → GridPut rows hs (length ps) k ys zs (Ok b)
      → ts ≡ over zs (24 + 4 * length hs) (bytes_of (all_fields_of ps))
      → ts ≡ file_of rows hs ps ++ drop (total_of (length hs) (length ps)) ys
  unfolding file_of numbers_of
  grid-written g e =
      let long = grid-long g in
      e ∙ ap (λ (l : List ℕ). over l (24 + 4 * length hs) (bytes_of (all_fields_of ps))) g.room
      ∙ over-over ys 0 (bytes_of front) (omega (arith, front_bytes, long)) (24 + 4 * length hs)
      (bytes_of (all_fields_of ps)) (omega (arith, front_bytes))
      ∙ ap (over ys 0) (sym (bytes-append front (all_fields_of ps)))
      ∙ over-front ys (file_of rows hs ps)
      ∙ ap (λ (n : ℕ). file_of rows hs ps ++ drop n ys) (file-length rows hs ps)
