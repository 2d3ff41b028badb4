use Rattle.std.proofs.Common.{rules}
use Rattle.server_core.proofs.orders.order.Tick.is_last_poll.Goals as goal

pub returns : goal.returns
returns c = search rules
