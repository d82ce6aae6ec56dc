-- The claims hold: the batch of the definition is one (`order-unique` of `relief`), and so is the outline
-- (`outline-unique` of `outline`). Assumes nothing.
use Rattle.record.specs.declared.Refusal.{Refusal}
use Rattle.std.specs.Prelude.{Result, ℕ}
use mathlib.Core.Path.{sym, ap, ◌∙◌}
use Rattle.relief.proofs.Lists.{order-unique}
use Rattle.outline.specs.Promises.{outlined_told}
use Rattle.outline.proofs.Claims as outline
use Rattle.layout.specs.Promises.{signed_told}
use Rattle.layout.proofs.HandedBytes.{bytes-unique}
use Rattle.meter_runs.specs.Claims.{MeterColumnUnique, MeterOutlineUnique, Claims}

meter-column-unique : MeterColumnUnique
meter-column-unique run column grid g h work w v table t u a b p q =
    (bytes-unique order-unique p.hands q.hands, p.grid_after ∙ sym q.grid_after)

meter-outline-unique : MeterOutlineUnique
meter-outline-unique run grid levels work w v text t u a b p q =
    let e = (outline.claims).outline-unique run grid levels work w v text t u _ _ p.outlines q.outlines in
    (p.answered ∙ ap (λ (x : Result ℕ Refusal). signed_told (outlined_told x)) e.0 ∙ sym q.answered, e.1, e.2)

pub claims : Claims
claims = record {
  meter-column-unique = meter-column-unique;
  meter-outline-unique = meter-outline-unique;
}
