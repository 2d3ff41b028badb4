use Rattle.order_carrier.specs.Stand.{stand_at}
use Rattle.order_carrier.proofs.CallByItsParts.{not-ready}
use Rattle.order_carrier.proofs.OrderByCallParts.{carries-barred, carries-holds}
use Rattle.order_carrier.proofs.carrier.Carrier.carry.Goals as goal

pub returns-then-is_unseen-clause-carries : goal.returns-then-is_unseen-clause-carries
returns-then-is_unseen-clause-carries g c = rw c.of-key.ensures at c.start.ensures.carries

pub returns-then-is_going-clause-carries : goal.returns-then-is_going-clause-carries
returns-then-is_going-clause-carries g c = rw c.of-key.ensures at c.poll_again.ensures.carries

pub returns-clause-carries : goal.returns-clause-carries
returns-clause-carries g c =
    let stands = stand_at c.args.self.now.slots in
    let unready = not-ready stands c.args.order.now (stands c.of-key.result) (λ unseen. let is = c.is_unseen.ensures.1 unseen in cc) (λ going. let is = c.is_going.ensures.1 going in cc) in
    rw c.of-key.ensures at (carries-barred g.P.ConnectionProvider c.of-key.result c.args.order.now c.args.now c.args.self.now unready (c.requires.named c.of-key.result))

pub returns-then-is_unseen-clause-holds : goal.returns-then-is_unseen-clause-holds
returns-then-is_unseen-clause-holds g c = carries-holds g.P.ConnectionProvider c.of-key.result c.args.order.now c.args.now c.args.self.now c.start.new.self _ c.requires c.start.ensures.carries

pub returns-then-is_going-clause-holds : goal.returns-then-is_going-clause-holds
returns-then-is_going-clause-holds g c =
    carries-holds g.P.ConnectionProvider c.of-key.result c.args.order.now c.args.now c.args.self.now c.poll_again.new.self _ c.requires c.poll_again.ensures.carries
