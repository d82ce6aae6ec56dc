-- The claim holds: the list of a grid is one, and answer and table are computed from it. Assumes nothing.
use Rattle.relief.proofs.Lists.{order-unique}
use Rattle.layout.proofs.HandedBytes.{bytes-unique}
use Rattle.suite.specs.Claims.{Claims}

pub claims : Claims
claims = record { suite-unique = λ rows heights T work w v table t u a b. bytes-unique order-unique }
