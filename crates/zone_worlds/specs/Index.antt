-- What an index of a world finds.
use Rattle.std.specs.Prelude.{◌≡◌, ℕ, true, List, [], Some, filter, find, slice_get}
use Rattle.std.specs.Option.{option_map, option_map_or}
use Rattle.std.specs.List.{list_any, flat_map}
use Rattle.std.specs.declared.net.IpAddr.{IpAddr}
use Rattle.std.specs.contracts.net.ip_addr.IpAddrPartialEq.TheImpl as address
use Rattle.std.specs.HashMap as map
use Rattle.std.specs.HashSet as set
use Rattle.dns_core.specs.Name.{DomainName, same_names}
use Rattle.dns_core.specs.declared.record.Record.{Record}
use Rattle.resolution.specs.Names.{is_above}
use Rattle.zone_rules.specs.declared.world.Zone.{Zone}
use Rattle.zone_rules.specs.declared.world.Host.{Host}
use Rattle.zone_rules.specs.declared.world.World.{World}
use Rattle.zone_worlds.specs.declared.index.Index.{Index}

-- among all zones, the first of those that were seen with this apex stands at the place under it
abbrev pub FindsZones : {S : Type 0} → List Zone → List Zone → map.HashMap DomainName ℕ S → Type 0
FindsZones zones seen places = (n : DomainName) → option_map (slice_get zones) (map.get same_names places n) ≡ option_map Some (find (λ z. same_names z.apex n) seen)

-- likewise of hosts and their addresses
abbrev pub FindsHosts : {S : Type 0} → List Host → List Host → map.HashMap IpAddr ℕ S → Type 0
FindsHosts hosts seen places = (a : IpAddr) → option_map (slice_get hosts) (map.get address.ghosts.eq places a) ≡ option_map Some (find (λ h. address.ghosts.eq h.ip a) seen)

-- the names are those that exist in these zones
abbrev pub FindsNames : {S : Type 0} → List Zone → set.HashSet DomainName S → Type 0
FindsNames zones names = (n : DomainName) → n.fqdn ≡ true → set.contains same_names names n ≡ list_any (λ z. list_any (λ r. is_above n r.name) z.records) zones

-- the records of all zones, zone by zone
abbrev pub all_records : List Zone → List Record
all_records zones = flat_map (λ z. z.records) zones

-- the records under a name
abbrev pub held : {S : Type 0} → map.HashMap DomainName (List Record) S → DomainName → List Record
held kept n = option_map_or (λ rs. rs) (map.get same_names kept n) []

-- under each name stand those of these records that have it, in their order
abbrev pub FindsRecords : {S : Type 0} → List Record → map.HashMap DomainName (List Record) S → Type 0
FindsRecords seen kept = (n : DomainName) → held kept n ≡ filter (λ r. same_names r.name n) seen

-- the index finds the first zone of each apex, the first host of each address, each name that exists, and the records of each name
pub record IsIndex (w : World) (index : Index) : Type 0 where
  pub zones : FindsZones w.zones w.zones index.zones
  pub hosts : FindsHosts w.hosts w.hosts index.hosts
  pub names : FindsNames w.zones index.names
  pub records : FindsRecords (all_records w.zones) index.records
