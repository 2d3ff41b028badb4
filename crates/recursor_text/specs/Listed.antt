-- The zones and the hosts of a world that are read so far, and the sets of their apexes and addresses.
use Rattle.std.specs.Prelude.{◌≡◌, Bool, List}
use Rattle.std.specs.BTreeSet.{BTreeSet, contains}
use Rattle.std.specs.List.{list_any}
use Rattle.std.specs.declared.net.ip_addr.IpAddr.{IpAddr}
use Rattle.std.specs.contracts.net.ip_addr.IpAddrPartialEq.TheImpl as address
use Rattle.std.specs.contracts.net.ip_addr.IpAddrOrd.TheImpl as address_order
use Rattle.dns_core.specs.Name.{DomainName, same_names, names_cmp}
use Rattle.zone_rules.specs.declared.world.Zone.{Zone}
use Rattle.zone_rules.specs.declared.world.Host.{Host}

-- a zone has this apex, without case
abbrev pub has_apex : List Zone → DomainName → Bool
has_apex zones n = list_any (λ z. same_names z.apex n) zones

-- a host has this address
abbrev pub has_address : List Host → IpAddr → Bool
has_address hosts ip = list_any (λ h. address.ghosts.eq h.ip ip) hosts

-- the set has the apexes of the zones, and no other
abbrev pub AreApexes : List Zone → BTreeSet DomainName → Type 0
AreApexes zones apexes = (n : DomainName) → contains names_cmp apexes n ≡ has_apex zones n

-- the set has the addresses of the hosts, and no other
abbrev pub AreAddresses : List Host → BTreeSet IpAddr → Type 0
AreAddresses hosts addresses = (ip : IpAddr) → contains address_order.ghosts.cmp addresses ip ≡ has_address hosts ip
