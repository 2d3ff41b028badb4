use Rattle.std.proofs.Common.{sym, ◌∙◌, arith}
use Rattle.std.proofs.lemmas.Result.{err_from_is_err_and}
use Rattle.wire_names.proofs.Loops.{fails_as}
use Rattle.wire_records.specs.Reading.{question_of}
use Rattle.wire_records.proofs.Turns.{turns_done, turn_on, turn_fails}
use Rattle.wire_records.proofs.sections.read_questions.Goals as goal

pub returns-in_err-question-clause-exact : goal.returns-in_err-question-clause-exact
returns-in_err-question-clause-exact c =
    let e = c.in_err-question.field-0.0 in
    let failed = turn_fails e question_of c.questions.questions.items c.questions.left c.args.message.now c.questions.rest.now c.questions-test.true c.in_err-question.ensures.exact in
    let p = err_from_is_err_and c.from_residual.result c.from_residual.ensures.1 in
    rw (p.1, p.2) (fails_as e _ _ c.questions.invariant.read failed)

pub questions-preserved : goal.questions-preserved
questions-preserved c = record {
  read = rw c.in_ok-push.ensures.items (sym (turn_on question_of c.questions.questions.items c.questions.left c.args.message.now c.questions.rest.now c.in_ok-question.after.now c.in_ok-question.question c.questions-test.true c.in_ok-question.ensures.exact) ∙ c.questions.invariant.read);
  rest = c.in_ok-question.ensures.rest;
  kept = c.in_ok-question.ensures.kept;
}

pub returns-clause-exact : goal.returns-clause-exact
returns-clause-exact c = sym c.questions.invariant.read ∙ turns_done question_of c.questions.questions.items c.questions.left c.args.message.now c.questions.rest.now (omega (arith, c.questions-test.false))
