use Rattle.std.proofs.Common.{◌≡◌, take}
use Rattle.std.specs.Prelude.{◌&&◌, filter}
use Rattle.dns_core.specs.Name.{same_names}
use Rattle.zone_rules.specs.Choosing.{is_of}
use Rattle.zone_rules.proofs.choosing.owned.Given as goal

abbrev pub invariant-loop-r : goal.invariant-loop-r
invariant-loop-r l = l.found.items ≡ filter (λ r. same_names r.name l.name && is_of l.asked r) (take l.r-index l.r-items)
