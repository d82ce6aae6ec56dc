-- `pass_line`: the line is what both lines begin with. Assumes nothing.
use Rattle.std.proofs.Common.{◌≡◌, ℕ, [], ◌∷◌, append_assoc}
use Rattle.relief.specs.Outline.{pass_line}
use Rattle.lines.specs.Lines.{front_of}
use Rattle.lines.proofs.pass_line.Goals as goal

pass-front : (depth cell level : ℕ)
    → pass_line depth cell level ≡ front_of depth (112 ∷ 97 ∷ 115 ∷ 115 ∷ 32 ∷ []) cell level 10
unfolding pass_line
pass-front depth cell level = simp append_assoc

pub front-requires : goal.front-requires
front-requires g c = rw (pass-front c.args.depth c.args.cell c.args.level) at c.requires

pub returns : goal.returns
returns g c = rw (pass-front c.args.depth c.args.cell c.args.level) c.front.ensures
