-- The claims hold. Assumes nothing.
use Rattle.account.specs.Claims.{Claims}
use Rattle.account.proofs.Unique.{accounted-differ, account-unique, verdict-differ, check-unique, account-passes}

pub claims : Claims
claims = record {
  accounted-differ = accounted-differ;
  account-unique = account-unique;
  verdict-differ = verdict-differ;
  check-unique = check-unique;
  account-passes = account-passes;
}
