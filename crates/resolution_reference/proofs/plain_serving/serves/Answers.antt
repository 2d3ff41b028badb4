use Rattle.std.proofs.Common.{◌≡◌, true, sym, ap, subst, ◌∙◌}
use Rattle.dns_core.specs.Name.{DomainName}
use Rattle.resolution.specs.Serving.{Serves}
use Rattle.resolution_reference.specs.Plain.{apex}
use Rattle.resolution_reference.specs.PlainServing.{log_in}
use Rattle.resolution_reference.proofs.PlainServed.{served_qualified, apex-labels}
use Rattle.resolution_reference.proofs.plain_serving.serves.Goals as goal

pub returns-then-not-is_fqdn : goal.returns-then-not-is_fqdn
returns-then-not-is_fqdn c = ((λ e. cc), (λ x. let q = served_qualified c.args.setting.now c.args.zone.now x in let a = c.if-not-is_fqdn.true in let b = c.is_fqdn.ensures in cc))

pub returns : goal.returns
returns c =
    let full : (c.args.zone.now).fqdn ≡ true = let a = c.if-not-is_fqdn.false in let b = c.is_fqdn.ensures in cc in
    let F : DomainName → Type 0 = λ z. Serves c.args.setting.now.policy.now (log_in c.args.setting.now) c.args.n c.args.ip z in
    let same : apex c.labels.result.now ≡ c.args.zone.now = ap apex c.labels.ensures.labels ∙ apex-labels c.args.zone.now full in
    ((λ e. subst F same (c.serves_apex.ensures.0 e)), (λ x. c.serves_apex.ensures.1 (subst F (sym same) x)))
