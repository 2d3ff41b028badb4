use Rattle.std.proofs.Common.{Bool, cond, ◌&&◌, Some, ◌∙◌, ap}
use Rattle.order_carrier.specs.Key.{same_key}
use Rattle.order_carrier.specs.Stand.{slot_at}
use Rattle.order_carrier.proofs.carrier.Carrier.put.Goals as goal

pub returns-clause-slots : goal.returns-clause-slots
returns-clause-slots g c k =
    c.put_under.ensures k ∙ ap (λ (b : Bool). cond (b && same_key c.args.key k) (Some c.args.slot) (slot_at c.args.self.now.slots k)) c.requires
