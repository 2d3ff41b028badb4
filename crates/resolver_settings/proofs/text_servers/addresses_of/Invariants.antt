use Rattle.std.proofs.Common.{List, ◌++◌, length}
use Rattle.std.specs.declared.net.ip_addr.IpAddr.{IpAddr}
use Rattle.resolver_settings.specs.TextLines.{lines_of}
use Rattle.resolver_settings.specs.TextServers.{Addresses, server_words}
use Rattle.resolver_settings.proofs.text_servers.addresses_of.Given as goal

abbrev pub invariant-lines : goal.invariant-lines
invariant-lines l = (rest : List IpAddr) → Addresses (server_words l.lines) rest → Addresses (server_words (lines_of l.text)) (l.addresses.items ++ rest)

abbrev pub decreases-lines : goal.decreases-lines
decreases-lines l = length l.lines
