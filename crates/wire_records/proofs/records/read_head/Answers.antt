use Rattle.wire_records.proofs.Following.{rest_after}
use Rattle.wire_records.proofs.NumberLaws.{two_follows}
use Rattle.wire_records.proofs.records.read_head.Goals as goal

pub returns-clause-rest : goal.returns-clause-rest
returns-clause-rest c = rest_after c.args.message.now c.in_ok-name.after.now c.in_ok-code.rest.now c.in_ok-name.ensures.rest (two_follows c.in_ok-name.after.now (c.in_ok-code.code, c.in_ok-code.rest.now) c.in_ok-code.ensures)
