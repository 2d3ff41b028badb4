-- Which alias of a zone is followed next.
use Rattle.std.specs.Prelude.{not, ◌&&◌, List, if◌then◌else◌, Option, None}
use Rattle.std.specs.List.{list_any}
use Rattle.dns_core.specs.Name.{DomainName, same_names}
use Rattle.dns_core.specs.declared.record.Record.{Record}
use Rattle.resolution.specs.Names.{is_above}
use Rattle.zone_rules.specs.Choosing.{alias_in}
use Rattle.zone_rules.specs.declared.world.Zone.{Zone}

-- the next alias of the zone from a name on, unless the name lies outside the zone or was met
abbrev pub next_alias : Zone → List DomainName → DomainName → Option Record
next_alias z met n = if is_above z.apex n && not (list_any (same_names n) met) then alias_in z n else None
