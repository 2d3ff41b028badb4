-- The world that is seen, plainly or with its index.
use Rattle.zone_rules.specs.declared.world.World.{World}
use Rattle.world_layout.specs.declared.sight.Sight.{Sight}
use Rattle.world_layout.specs.declared.sight.Sight.TheVariants.{Plain, Indexed}

abbrev pub world_of : Sight → World
world_of (Plain world) = world.now
world_of (Indexed world) = world.now
