use Rattle.world_facts.proofs.WorldDenials.{denies_as_world}
use Rattle.world_facts.proofs.denying.a_denial_is_the_worlds.Goals as goal

pub returns : goal.returns
returns cx = λ given w log i moment q o z n ok by in_class other h e no_ns. denies_as_world given w log ok by q o z n in_class other h e no_ns
