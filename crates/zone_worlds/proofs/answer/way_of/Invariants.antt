use Rattle.std.specs.Prelude.{filter, length}
use Rattle.zone_worlds.proofs.MetNames.{unmet}
use Rattle.zone_worlds.proofs.ZonesFound.{all_records}
use Rattle.zone_worlds.proofs.WayOfAliases.{Reached}
use Rattle.zone_worlds.proofs.answer.way_of.Given as goal

-- what leads on from the name at hand leads on from the question's, and where nothing does nothing did
abbrev pub invariant-way : goal.invariant-way
invariant-way l = Reached l.world l.query l.way.names.items l.way.last l.way.aliases.items

abbrev pub decreases-way : goal.decreases-way
decreases-way l = length (filter (unmet l.way.names.items) (all_records l.world))
