-- The filters of a recursor, and the addresses of a world.
use Rattle.std.specs.Prelude.{Bool, true, not, ◌&&◌, Some, None}
use Rattle.std.specs.List.{list_all}
use Rattle.dns_core.specs.declared.record.Record.{Record}
use Rattle.resolution.specs.Records.{address}
use Rattle.resolver_settings.specs.Access.{denies}
use Rattle.zone_rules.specs.declared.world.World.{World}
use Rattle.world_check.specs.declared.filters.WorldFilters.{WorldFilters}

-- an address that the record holds is denied by neither filter
abbrev pub is_allowed : WorldFilters → Record → Bool
is_allowed filters r = elim (address r) [ None ↦ true | Some ip ↦ not (denies filters.server ip) && not (denies filters.answer ip) ]

abbrev pub has_allowed_addresses : World → WorldFilters → Bool
has_allowed_addresses world filters = list_all (λ zone. list_all (is_allowed filters) zone.records) world.zones
