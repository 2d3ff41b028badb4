use Rattle.std.specs.Prelude.{filter, length}
use Rattle.zone_worlds.proofs.MetNames.{unmet}
use Rattle.zone_worlds.proofs.WayOfAliases.{OnWay}
use Rattle.zone_worlds.proofs.telling.follow.Given as goal

-- what follows from the name at hand follows from the first
abbrev pub invariant-chain : goal.invariant-chain
invariant-chain l = OnWay l.zone l.name l.way.names.items l.way.last l.way.aliases.items

abbrev pub decreases-chain : goal.decreases-chain
decreases-chain l = length (filter (unmet l.way.names.items) l.zone.records)
