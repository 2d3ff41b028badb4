use Rattle.std.proofs.Common.{Some, ap}
use Rattle.dns_core.specs.Connection.{Peer}
use Rattle.order_carrier.proofs.carrier.Carrier.way.Goals as goal

pub returns-in-Some-clause-some : goal.returns-in-Some-clause-some
returns-in-Some-clause-some g c = rw c.in-Ask.is (c.in-Some.ensures.made, ap (λ (q : Peer). Some q) c.in-Some.ensures.some)

pub returns-in-None-clause-none : goal.returns-in-None-clause-none
returns-in-None-clause-none g c = rw c.in-Ask.is c.in-None.ensures.none

pub returns-in-Open-clause-some : goal.returns-in-Open-clause-some
returns-in-Open-clause-some g c = rw c.in-Open.is (tt, tt)

pub returns-in-Sleep-clause-some : goal.returns-in-Sleep-clause-some
returns-in-Sleep-clause-some g c = rw c.in-Sleep.is (tt, tt)
