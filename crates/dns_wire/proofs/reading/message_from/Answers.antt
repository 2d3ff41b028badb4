use Rattle.std.proofs.Common.{rules}
use Rattle.dns_wire.proofs.reading.message_from.Goals as goal

pub returns : goal.returns
returns c = search rules
