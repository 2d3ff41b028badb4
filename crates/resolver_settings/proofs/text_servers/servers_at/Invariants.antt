use Rattle.std.proofs.Common.{◌≡◌, take}
use Rattle.resolver_settings.specs.TextServers.{servers_at}
use Rattle.resolver_settings.proofs.text_servers.servers_at.Given as goal

abbrev pub invariant-loop-address : goal.invariant-loop-address
invariant-loop-address l = l.servers.items ≡ servers_at (take l.address-index l.addresses)
