-- A byte stored behind those that are laid is laid with them.
use Rattle.std.proofs.Common.{◌≡◌, ◌∙◌, sym, ap, arith, ℕ, ◌+◌, length, take, get_or}
use Rattle.std.proofs.Math.Seq.{take-suc}
use lib.ListN.{length-take}
use native.Mathlib.Numerals.{add-one}
use Rattle.words.specs.Words.{over}
use Rattle.words.proofs.Over.{over_none, over-push}
use Rattle.lines.proofs.sinks.lay.Goals as goal

pub loop-i-init : goal.loop-i-init
loop-i-init c = over_none c.args.text.now c.args.at

pub loop-i-preserved : goal.loop-i-preserved
loop-i-preserved c =
    let a = c.args in
    let i = c.loop-i.i in
    let front = take i a.bytes.now in
    let few : length front ≡ i = omega (arith, length-take i a.bytes.now) in
    over-push a.text.now a.at front (a.at + i) (get_or a.bytes.now i 0) c.loop-i.invariant (omega (arith, few))
    (omega arith)
    ∙ ap (over a.text.now a.at) (sym (take-suc a.bytes.now i 0 c.loop-i-test.true))
    ∙ ap (λ (n : ℕ). over a.text.now a.at (take n a.bytes.now)) (sym (add-one i))
