use Rattle.world_facts.proofs.CheckedWorlds.{well_served}
use Rattle.world_facts.proofs.checked.check_world_says_so.Goals as goal

pub returns : goal.returns
returns cx = λ given w roots filters patience verdict g s. well_served given w roots filters patience verdict g s
