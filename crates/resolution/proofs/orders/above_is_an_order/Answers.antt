use Rattle.resolution.proofs.AboveIsAnOrder.{is_above-refl, is_above-trans, is_in_zone-above}
use Rattle.resolution.proofs.orders.above_is_an_order.Goals as goal

pub returns-clause-itself : goal.returns-clause-itself
returns-clause-itself c = is_above-refl

pub returns-clause-third : goal.returns-clause-third
returns-clause-third c = is_above-trans

pub returns-clause-subzone : goal.returns-clause-subzone
returns-clause-subzone c = is_in_zone-above
