use Rattle.std.proofs.Common.{◌≡◌, take}
use Rattle.std.specs.Prelude.{◌&&◌, filter}
use Rattle.std.specs.List.{list_any}
use Rattle.dns_core.specs.Classifying.{is_address}
use Rattle.resolution.specs.Names.{is_above}
use Rattle.zone_rules.specs.Choosing.{names_server}
use Rattle.zone_rules.proofs.choosing.server_addresses.Given as goal

abbrev pub invariant-loop-r : goal.invariant-loop-r
invariant-loop-r l = l.found.items ≡ filter (λ r. is_address r && is_above l.zone.apex r.name && list_any (names_server l.owner r.name) l.zone.records) (take l.r-index l.r-items)
