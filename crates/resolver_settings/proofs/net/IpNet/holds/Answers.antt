use Rattle.std.proofs.Common.{◌≡◌, true, subst}
use Rattle.std.specs.Bool.{beq}
use Rattle.std.specs.Net.Addr.{is_ipv4}
use Rattle.resolver_settings.proofs.FirstBitsSpan.{held_between}
use Rattle.resolver_settings.proofs.net.IpNet.holds.Goals as goal

pub returns-then-is_ipv4-clause-held : goal.returns-then-is_ipv4-clause-held
returns-then-is_ipv4-clause-held c =
    let i = c.self.inside in
    let same : beq (is_ipv4 i.addr) c.args.is_ipv4 ≡ true = subst (λ four. beq four c.args.is_ipv4 ≡ true) c.is_ipv4.ensures c.if-is_ipv4.true in
    held_between _ i.addr i.prefix i.lowest i.highest c.args.number c.args.is_ipv4 c.is_between.result c.self.view_is c.self.invariant.1 c.self.invariant.2 same c.is_between.ensures
