use Rattle.std.proofs.lemmas.Result.{IfOk-from_err}
use Rattle.recursor_question.proofs.Words.{ap}
use Rattle.recursor_types.specs.declared.policy.Policy.{Policy}
use Rattle.recursor_question.proofs.resolving.Resolution.send_on.Goals as goal

pub returns-in_err-recall-in-Recall-clause-holds : goal.returns-in_err-recall-in-Recall-clause-holds
returns-in_err-recall-in-Recall-clause-holds c view by pools h = record {
  holds = c.recall.ensures.holds view by.at.now_is (ap (λ (s : Policy). s.server_filter) by.are) by.keeps h;
  tables = pools;
  gives = IfOk-from_err c.from_residual.result _ c.from_residual.ensures.0;
}

pub returns-in_ok-recall-in-Recall-clause-holds : goal.returns-in_ok-recall-in-Recall-clause-holds
returns-in_ok-recall-in-Recall-clause-holds c view by pools h = record {
  holds = c.recall.ensures.holds view by.at.now_is (ap (λ (s : Policy). s.server_filter) by.are) by.keeps h;
  tables = pools;
  gives = tt;
}

pub returns-in-Begin-clause-holds : goal.returns-in-Begin-clause-holds
returns-in-Begin-clause-holds c view by pools h = c.begin_asking.ensures.holds view by.at.now_is pools h

pub returns-in-Step-clause-holds : goal.returns-in-Step-clause-holds
returns-in-Step-clause-holds c view by pools h = c.give_order.ensures.holds view by.at pools h

pub returns-in_err-hear-in-Hear-clause-holds : goal.returns-in_err-hear-in-Hear-clause-holds
returns-in_err-hear-in-Hear-clause-holds c view by pools h = record {
  holds = c.hear.ensures.holds view (ap (λ (s : Policy). s.server_filter) by.are) h;
  tables = pools;
  gives = IfOk-from_err c.from_residual-in_err-hear-in-Hear.result _ c.from_residual-in_err-hear-in-Hear.ensures.0;
}

pub returns-in_ok-hear-in-Hear-clause-holds : goal.returns-in_ok-hear-in-Hear-clause-holds
returns-in_ok-hear-in-Hear-clause-holds c view by pools h = record {
  holds = c.hear.ensures.holds view (ap (λ (s : Policy). s.server_filter) by.are) h;
  tables = pools;
  gives = tt;
}
