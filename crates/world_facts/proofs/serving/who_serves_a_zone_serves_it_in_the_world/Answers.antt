use Rattle.world_facts.proofs.ServersOfZones.{serves-world}
use Rattle.world_facts.proofs.serving.who_serves_a_zone_serves_it_in_the_world.Goals as goal

pub returns : goal.returns
returns c = λ given w log n ip z ok by s. serves-world given w log ok by s
