use Rattle.std.proofs.Common.{refl}
use Rattle.order_carrier.proofs.polling.poll_moment.Goals as goal

pub returns-then-now-until : goal.returns-then-now-until
returns-then-now-until g c log = record { hears = (c.args.until, c.requires, c.if-now-until.true); log = refl; stand = refl; named = tt }

pub returns : goal.returns
returns g c log = record { hears = (c.args.until, c.requires, c.if-now-until.false); log = refl; stand = refl; named = tt }
