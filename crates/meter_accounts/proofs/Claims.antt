-- The claims hold: account and verdict are one each (`account-unique`, `check-unique` of `account`). Assumes nothing.
use Rattle.record.specs.declared.Refusal.{Refusal}
use Rattle.std.specs.Prelude.{Result, Bool}
use mathlib.Core.Path.{sym, ap, ◌∙◌}
use Rattle.account.specs.declared.Given.{Given}
use Rattle.account.specs.Promises.{accounted_told, verdict_told}
use Rattle.account.proofs.Claims as account
use Rattle.layout.specs.Promises.{signed_told}
use Rattle.meter_accounts.specs.Claims.{MeterAccountUnique, MeterCheckUnique, Claims}

meter-account-unique : MeterAccountUnique
meter-account-unique rows heights cell work w v path t u island k l a b p q =
    let e =
    (account.claims).account-unique rows heights cell work w v path t u island k l _ _ p.accounts q.accounts in
    (p.answered ∙ ap (λ (x : Result Given Refusal). signed_told (accounted_told x)) e.0 ∙ sym q.answered, e.1, e.2, e.3)

meter-check-unique : MeterCheckUnique
meter-check-unique rows heights cell key path island work w v a b p q =
    let e = (account.claims).check-unique rows heights cell key path island work w v _ _ p.checks q.checks in
    (p.answered ∙ ap (λ (x : Result Bool Refusal). signed_told (verdict_told x)) e.0 ∙ sym q.answered, e.1)

pub claims : Claims
claims = record {
  meter-account-unique = meter-account-unique;
  meter-check-unique = meter-check-unique;
}
