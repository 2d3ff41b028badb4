use Rattle.std.proofs.Common.{◌<◌, ◌^◌, subst}
use Rattle.resolver_settings.proofs.SharedBits.{shares_as_told}
use Rattle.resolver_settings.proofs.FirstBitsSpan.{contained}
use Rattle.resolver_settings.specs.Net.{width_of}
use Rattle.resolver_settings.proofs.net.IpNet.contains.Goals as goal

pub returns-clause-value : goal.returns-clause-value
returns-clause-value c = contained _ c.args.ip c.is_ipv4.result c.number.result c.holds.result c.is_ipv4.ensures c.number.ensures.number c.holds.ensures.held

pub returns-clause-bits : goal.returns-clause-bits
returns-clause-bits c =
    let told = contained _ c.args.ip c.is_ipv4.result c.number.result c.holds.result c.is_ipv4.ensures c.number.ensures.number c.holds.ensures.held in
    shares_as_told _ c.args.ip c.holds.result told c.holds.ensures.family (subst (λ n. n < 2 ^ width_of c.args.ip) c.number.ensures.number c.number.ensures.within)
