use Rattle.dns_core.proofs.ZonesOrdered.{qualified_in_itself, in_zone_itself, in_zone_third}
use Rattle.dns_core.proofs.name_laws.lying_in_a_zone_is_an_order.Goals as goal

pub returns-clause-itself : goal.returns-clause-itself
returns-clause-itself c = qualified_in_itself

pub returns-clause-but_the_empty : goal.returns-clause-but_the_empty
returns-clause-but_the_empty c = in_zone_itself

pub returns-clause-third : goal.returns-clause-third
returns-clause-third c = in_zone_third
