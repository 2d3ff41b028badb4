use Rattle.resolution.proofs.Sameness.{Same-refl, Same-trans}
use Rattle.resolution.proofs.orders.same_is_an_order.Goals as goal

pub returns-clause-itself : goal.returns-clause-itself
returns-clause-itself c = Same-refl

pub returns-clause-third : goal.returns-clause-third
returns-clause-third c = Same-trans
