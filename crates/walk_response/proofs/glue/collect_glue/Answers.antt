use Rattle.std.proofs.Common.{◌++◌, List, sym, subst}
use Rattle.std.specs.declared.net.ip_addr.IpAddr.{IpAddr}
use Rattle.dns_core.specs.Name.{DomainName}
use Rattle.resolution.specs.Names.{base}
use Rattle.resolution.specs.Records.{records}
use Rattle.resolution.specs.Serving.{allowed, glue}
use Rattle.resolver_settings.specs.Access.{denies}
use Rattle.walk_response.specs.Lending.{SameElements, lent_for}
use Rattle.walk_response.proofs.GlueOfServers.{same-sections, same-glue, same-trans, same-allowed, lent_for-append}
use Rattle.walk_response.proofs.glue.collect_glue.Goals as goal

pub returns : goal.returns
returns c =
    let m = c.args.message.now in
    let rs = records m in
    let n = c.args.name.now in
    let b = c.in_ok-base.base in
    let new = c.lend_section-3.new.ips.items in
    let all : SameElements new (c.new-ips.result.items ++ lent_for rs b rs) =
    same-sections (lent_for rs b) (lent_for-append rs b) m c.new-ips.result.items c.lend_section.new.ips.items c.lend_section-2.new.ips.items new
    c.items.result.now c.items-2.result.now c.items-3.result.now c.items.ensures c.items-2.ensures c.items-3.ensures c.in_ok-lend_section.ensures c.in_ok-lend_section-2.ensures c.in_ok-lend_section-3.ensures
    in
    let at_base : SameElements new (c.new-ips.result.items ++ lent_for rs (base n) rs) = subst (λ (z : DomainName). SameElements new (c.new-ips.result.items ++ lent_for rs z rs)) c.in_ok-base.ensures all in
    let alone : SameElements new (lent_for rs (base n) rs) = subst (λ (l : List IpAddr). SameElements new (l ++ lent_for rs (base n) rs)) c.new-ips.ensures.items at_base in
    let denied = denies c.args.filter.now in
    let given : SameElements new (glue m n) = same-trans new (lent_for rs (base n) rs) (glue m n) alone (same-glue m n) in
    subst (λ (l : List IpAddr). SameElements l (allowed denied (glue m n))) (sym c.keep_allowed.ensures) (same-allowed denied new (glue m n) given)
