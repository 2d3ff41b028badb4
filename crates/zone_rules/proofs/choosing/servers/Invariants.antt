use Rattle.std.proofs.Common.{◌≡◌, take}
use Rattle.std.specs.Prelude.{◌&&◌, filter}
use Rattle.dns_core.specs.Name.{same_names}
use Rattle.dns_core.specs.Classifying.{is_ns}
use Rattle.zone_rules.proofs.choosing.servers.Given as goal

abbrev pub invariant-loop-r : goal.invariant-loop-r
invariant-loop-r l = l.found.items ≡ filter (λ r. is_ns r && same_names r.name l.owner) (take l.r-index l.r-items)
