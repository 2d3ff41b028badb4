use Rattle.std.proofs.Common.{◌≡◌, true, List, ℕ, sym, ap, subst, ◌∙◌}
use Rattle.dns_core.specs.Name.{DomainName}
use Rattle.dns_core.specs.declared.message.Query.{Query}
use Rattle.resolution_reference.specs.Plain.{apex, asks}
use Rattle.resolution_reference.specs.PlainServing.{log_in}
use Rattle.resolution_reference.specs.PlainBase.{IsBase}
use Rattle.resolution_reference.proofs.PlainServed.{apex-labels}
use Rattle.resolution_reference.proofs.PlainBased.{as_query}
use Rattle.resolution_reference.proofs.plain_base.base.Goals as goal

pub returns : goal.returns
returns c =
    let s = c.args.setting.now in
    let q = c.args.query.now in
    let full : (q.name).fqdn ≡ true = let a = c.if-not-is_fqdn.false in let b = c.is_fqdn.ensures in cc in
    let zoned : (c.args.zone.now).fqdn ≡ true = let a = c.if-not-is_fqdn-2.false in let b = c.is_fqdn-2.ensures in cc in
    let F : Query → DomainName → Type 0 = λ x z. IsBase s.policy.now (log_in s) c.args.asked_at x c.args.entry z in
    let asked : asks c.labels.result.now (q.query_type).code (q.query_class).code ≡ q = ap (λ (ls : List (List ℕ)). asks ls (q.query_type).code (q.query_class).code) c.labels.ensures.labels ∙ as_query q full in
    let at : apex c.labels-2.result.now ≡ c.args.zone.now = ap apex c.labels-2.ensures.labels ∙ apex-labels c.args.zone.now zoned in (
      (λ e. subst (F q) at (subst (λ (x : Query). F x (apex c.labels-2.result.now)) asked (c.base_at.ensures.0 e))),
      (λ b. c.base_at.ensures.1 (subst (λ (x : Query). F x (apex c.labels-2.result.now)) (sym asked) (subst (F q) (sym at) b))),
    )
