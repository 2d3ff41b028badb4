use Rattle.std.proofs.Common.{◌≡◌, true, take}
use Rattle.std.specs.Prelude.{◌||◌}
use Rattle.std.specs.List.{list_any}
use Rattle.std.specs.HashSet.{contains}
use Rattle.dns_core.specs.Name.{DomainName, same_names}
use Rattle.resolution.specs.Names.{is_above}
use Rattle.zone_worlds.proofs.index.add_owners.Given as goal

abbrev pub invariant-loop-r : goal.invariant-loop-r
invariant-loop-r l = (n : DomainName) → n.fqdn ≡ true → contains same_names l.names n ≡ (contains same_names l.fn.names n || list_any (λ r. is_above n r.name) (take l.r-index l.records))
