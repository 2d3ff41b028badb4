use Rattle.world_facts.proofs.WholeCounts.{counts}
use Rattle.world_facts.proofs.counting.what_a_world_tells_counts_whole.Goals as goal

pub returns : goal.returns
returns cx = λ given w log i moment q o z v ok by in_class h e. counts given w log ok by q o z v in_class h e
