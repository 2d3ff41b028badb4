-- Which requests are for one lookup.
use Rattle.std.specs.Prelude.{ℕ, Bool, true, false, ◌&&◌, ◌==◌, Option, Some, None}
use Rattle.std.specs.Bool.{beq}
use Rattle.std.specs.declared.net.ip_addr.IpAddr.{IpAddr}
use Rattle.std.specs.contracts.net.ip_addr.IpAddrPartialEq.TheImpl as address
use Rattle.dns_core.specs.declared.request.DnsRequest.{DnsRequest}
use Rattle.dns_core.specs.declared.request.DnsRequestOptions.{DnsRequestOptions}
use Rattle.resolution.specs.Names.{same_query}

abbrev pub same_subnet : Option (IpAddr × ℕ) → Option (IpAddr × ℕ) → Bool
same_subnet None None = true
same_subnet None (Some b) = false
same_subnet (Some a) None = false
same_subnet (Some a) (Some b) = address.ghosts.eq a.0 b.0 && a.1 == b.1

-- the options by which a server may answer otherwise
abbrev pub same_options : DnsRequestOptions → DnsRequestOptions → Bool
same_options a b =
    beq a.recursion_desired b.recursion_desired && beq a.checking_disabled b.checking_disabled && beq a.edns_set_dnssec_ok b.edns_set_dnssec_ok && same_subnet a.client_subnet b.client_subnet

-- the same question, without ASCII case, with the same of these options
abbrev pub same_key : DnsRequest → DnsRequest → Bool
same_key a b = same_query a.query b.query && same_options a.options b.options
