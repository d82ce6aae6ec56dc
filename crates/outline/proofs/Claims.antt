-- The claims hold. Assumes nothing.
use Rattle.outline.specs.Claims.{Claims}
use Rattle.outline.proofs.Unique.{outlined-differ, outlines-unique}

pub claims : Claims
claims = record { outlined-differ = outlined-differ; outline-unique = outlines-unique }
