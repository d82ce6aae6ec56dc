-- The claims are laws of `Refusals`. Assumes nothing.
use Rattle.record.specs.Claims.{Claims}
use Rattle.record.proofs.Refusals.{refusals-differ, handed-differ}

pub claims : Claims
claims = record { refusals-differ = refusals-differ; handed-differ = handed-differ }
