use Rattle.wire_records.specs.Spelling.{spelled_question, FitQuestion}
use Rattle.dns_wire.proofs.Lists.{out_more, all_more}
use Rattle.dns_wire.proofs.spelling.write_questions.Goals as goal

pub loop-query-preserved : goal.loop-query-preserved
loop-query-preserved c = record {
  out = out_more spelled_question c.args.questions.now c.loop-query.query-index c.query-item.result c.args.out.now.items c.loop-query.out.items c.write_question.new.out.items c.loop-query-test.true c.query-item.is c.loop-query.invariant.out c.in_ok-write_question.ensures.ok;
  fit = all_more FitQuestion c.args.questions.now c.loop-query.query-index c.query-item.result c.loop-query-test.true c.query-item.is c.loop-query.invariant.fit c.in_ok-write_question.ensures.fit;
}
