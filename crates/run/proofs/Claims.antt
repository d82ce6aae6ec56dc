-- A proof of each claim of `specs/Claims.antt`. Assumes nothing.
use Rattle.run.specs.Claims.{Claims}
use Rattle.run.proofs.Outcomes.{start-unique, column-unique, end-unique, column-flat-unique, end-flat-unique}
use Rattle.run.proofs.Outcomes.{column-takes, column-keeps}
use Rattle.run.proofs.WholeRun.{run_holds}

pub claims : Claims
claims = record {
  start-unique = start-unique;
  column-unique = column-unique;
  end-unique = end-unique;
  column-flat-unique = column-flat-unique;
  end-flat-unique = end-flat-unique;
  column-takes = column-takes;
  column-keeps = column-keeps;
  run_holds = run_holds;
}
