-- The claims hold: the list of a grid is one, and answer and row are computed from it. Assumes nothing.
use Rattle.relief.proofs.Lists.{order-unique}
use Rattle.table.proofs.Handed.{hands-unique, flat-unique}
use Rattle.list.specs.Claims.{Claims}

pub claims : Claims
claims = record {
  list-unique = λ rows heights T work w v table t u a b. hands-unique order-unique;
  flat-unique = λ rows heights T work w v room a b. flat-unique order-unique;
}
