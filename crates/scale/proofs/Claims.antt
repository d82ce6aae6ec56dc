-- The claims hold. Those on levels are laws of `Levels`. At two literal heights the difference computes, and two
-- naturals that are equal as integers are equal. Assumes nothing.
use Rattle.scale.specs.Claims.{ProminentGreatest, ProminentLeast, Claims}
use Rattle.scale.proofs.Levels.{level-below, level-blank-iff, level-injective, level-le-iff, level-lt-iff}
use Rattle.scale.proofs.Levels.{level-difference, prominent-levels}

prominent-greatest : ProminentGreatest
prominent-greatest r h = let e = h.difference (record { le = tt }) in cc

prominent-least : ProminentLeast
prominent-least r h = let e = h.difference (record { le = tt }) in cc

pub claims : Claims
claims = record {
  level-below = λ z. level-below;
  level-blank-iff = λ z. level-blank-iff;
  level-injective = λ a b. level-injective;
  level-le-iff = λ a b. level-le-iff;
  level-lt-iff = λ a b. level-lt-iff;
  level-difference = λ a b. level-difference;
  prominent-levels = λ height key r. prominent-levels;
  prominent-greatest = prominent-greatest;
  prominent-least = prominent-least;
}
