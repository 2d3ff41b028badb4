-- What the servers of a delegation lend, one by one.
use Rattle.std.specs.Prelude.{if◌then◌else◌, ◌↔◌, List, Contains, Option, None}
use Rattle.std.specs.List.{filter_map, flat_map}
use Rattle.std.specs.declared.net.ip_addr.IpAddr.{IpAddr}
use Rattle.dns_core.specs.Name.{DomainName, same_names}
use Rattle.dns_core.specs.declared.record.Record.{Record}
use Rattle.resolution.specs.Records.{address}
use Rattle.resolution.specs.Serving.{target_below}

-- The two have the same addresses.
abbrev pub SameElements : List IpAddr → List IpAddr → Type 0
SameElements xs ys = (ip : IpAddr) → Contains xs ip ↔ Contains ys ip

-- the address that a record holds under the name
abbrev pub glue_of : DomainName → Record → Option IpAddr
glue_of target r = if same_names r.name target then address r else None

-- the addresses that the records hold under the name
abbrev pub lent_by : DomainName → List Record → List IpAddr
lent_by target rs = filter_map (glue_of target) rs

-- the addresses under the targets, one by one, of the NS records named at or below a zone
abbrev pub lent_for : List Record → DomainName → List Record → List IpAddr
lent_for rs zone section = flat_map (λ target. lent_by target rs) (filter_map (target_below zone) section)
