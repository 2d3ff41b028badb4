use Rattle.pool_rules.proofs.KeptErrorOverEnds.{kept_is_left}
use Rattle.pool_rules.proofs.kept_error_laws.the_kept_error_is_what_is_left.Goals as goal

pub returns : goal.returns
returns c = λ rules class ends. kept_is_left rules class ends
