-- A turn lays the next height behind those laid before it.
use Rattle.std.proofs.Common.{◌≡◌, ◌∙◌, ap, arith, w32, ℕ, ℤ, List, length, get_or, map, pos}
use Rattle.std.proofs.Math.Seq.{take-length}
use mir.ValLaws.{to_z-of_z}
use Rattle.words.specs.Words.{over}
use Rattle.layout.specs.Layout.{bits_of, bytes_of}
use Rattle.layout.proofs.Over.{over-nil}
use Rattle.writer.proofs.PutHeights.{bits_to, bits-laid}
use Rattle.writer.proofs.put_heights.Goals as goal

pub loop-i-init : goal.loop-i-init
loop-i-init c = over-nil c.args.room.now 24

pub loop-i-preserved : goal.loop-i-preserved
loop-i-preserved c =
    let hs = c.args.heights.now in
    let value =
    c.bits.ensures
    ∙ ap bits_of (to_z-of_z w32 (get_or hs c.loop-i.i (pos 0)) (record { sfits = c.bits-arg-1.given })) in
    bits-laid c.args.room.now hs c.loop-i.i c.requires c.loop-i.invariant c.loop-i-test.true value c.put_word.ensures

pub returns : goal.returns
returns c =
    let hs = c.args.heights.now in
    let e : c.loop-i.i ≡ length hs = omega arith in
    c.loop-i.invariant
    ∙ ap (λ (k : ℕ). over c.args.room.now 24 (bytes_of (bits_to hs k))) e
    ∙ ap (λ (l : List ℤ). over c.args.room.now 24 (bytes_of (map bits_of l))) (take-length hs)
