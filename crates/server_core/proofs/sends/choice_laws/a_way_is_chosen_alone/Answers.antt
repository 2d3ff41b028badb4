use Rattle.server_core.specs.Policy.{allows_config, is_config_before}
use Rattle.server_core.proofs.FirstLeast.{one_choice}
use Rattle.server_core.proofs.sends.choice_laws.a_way_is_chosen_alone.Goals as goal

pub returns : goal.returns
returns c = λ policy cs. one_choice (allows_config policy) is_config_before cs
