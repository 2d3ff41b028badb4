-- Who serves the zones of a world.
use Rattle.std.specs.Prelude.{Bool, true, false, not, ◌&&◌, ◌||◌, List, [], Some, None}
use Rattle.std.specs.List.{list_any, list_all}
use Rattle.std.specs.declared.net.IpAddr.{IpAddr}
use Rattle.dns_core.specs.Name.{DomainName, same_names}
use Rattle.dns_core.specs.Classifying.{is_glue_for}
use Rattle.dns_core.specs.declared.record.Record.{Record}
use Rattle.dns_core.specs.declared.record.RData.TheVariants.{NS}
use Rattle.resolution.specs.Names.{is_above, is_root}
use Rattle.resolution.specs.Records.{address}
use Rattle.zone_rules.specs.Tree.{serves}
use Rattle.zone_rules.specs.declared.world.Zone.{Zone}
use Rattle.zone_rules.specs.declared.world.World.{World}

-- there is a root zone, and every root address is a host that serves it
abbrev pub has_served_root : World → List IpAddr → Bool
has_served_root world roots = list_any (λ zone. is_root zone.apex) world.zones && list_all (λ ip. serves world ip []) roots

-- an NS record of the apex names a server at or below it, of which the zone holds an address
abbrev pub is_own_server : Zone → Record → Bool
is_own_server zone r = elim (r.rdata) [ NS target ↦ same_names r.name zone.apex && is_above zone.apex target && list_any (is_glue_for target) zone.records | _ ↦ false ]

abbrev pub has_own_server : Zone → Bool
has_own_server zone = is_root zone.apex || list_any (is_own_server zone) zone.records

-- each zone but the root has a server of its own, so that its delegation has glue (RFC 1034 section 4.2.1)
abbrev pub is_delegated_well : World → Bool
is_delegated_well world = list_all has_own_server world.zones

-- an address of the target serves the zone; any other record may be what it is
abbrev pub is_served_by : World → Zone → DomainName → Record → Bool
is_served_by world zone target r = elim (address r) [ None ↦ true | Some ip ↦ not (same_names r.name target) || serves world ip (zone.apex).labels ]

-- so does each address that any zone of the world holds
abbrev pub is_served_at : World → Zone → DomainName → Bool
is_served_at world zone target = list_all (λ holder. list_all (is_served_by world zone target) holder.records) world.zones

-- an NS record stands at the apex, and each address of its target serves the zone
abbrev pub is_served_as_named : World → Zone → Record → Bool
is_served_as_named world zone r = elim (r.rdata) [ NS target ↦ same_names r.name zone.apex && is_served_at world zone target | _ ↦ true ]

abbrev pub has_served_zones : World → Bool
has_served_zones world = list_all (λ zone. list_all (is_served_as_named world zone) zone.records) world.zones
