use Rattle.wire_records.proofs.Following.{rest_after}
use Rattle.wire_records.proofs.NumberLaws.{two_follows}
use Rattle.wire_records.proofs.questions.read_question.Goals as goal

pub returns-clause-rest : goal.returns-clause-rest
returns-clause-rest c =
    let message = c.args.message.now in
    let typed = rest_after message c.in_ok-name.after.now c.in_ok-query_type.after.now c.in_ok-name.ensures.rest (two_follows c.in_ok-name.after.now (c.in_ok-query_type.query_type, c.in_ok-query_type.after.now) c.in_ok-query_type.ensures) in
    rest_after message c.in_ok-query_type.after.now c.in_ok-query_class.rest.now typed (two_follows c.in_ok-query_type.after.now (c.in_ok-query_class.query_class, c.in_ok-query_class.rest.now) c.in_ok-query_class.ensures)
