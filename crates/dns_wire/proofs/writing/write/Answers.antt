use Rattle.std.proofs.Common.{rules}
use Rattle.dns_wire.proofs.SpelledMessages.{wire_spelled}
use Rattle.dns_wire.proofs.writing.write.Goals as goal

pub returns-clause-wire : goal.returns-clause-wire
returns-clause-wire c = wire_spelled c.args.message.now c.requires c.in_ok-write_message.ensures.fit

pub returns-in_default-clause-err : goal.returns-in_default-clause-err
returns-in_default-clause-err c = search rules
