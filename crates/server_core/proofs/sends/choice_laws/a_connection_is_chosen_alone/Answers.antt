use Rattle.server_core.specs.Policy.{allows_connection, is_before}
use Rattle.server_core.proofs.FirstLeast.{one_choice}
use Rattle.server_core.proofs.sends.choice_laws.a_connection_is_chosen_alone.Goals as goal

pub returns : goal.returns
returns c = λ policy now cs. one_choice (allows_connection policy) (is_before now) cs
