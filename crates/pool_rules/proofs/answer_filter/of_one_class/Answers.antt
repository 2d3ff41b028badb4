use Rattle.std.proofs.Common.{◌∙◌}
use Rattle.std.specs.Prelude.{find}
use Rattle.std.proofs.lemmas.Result.{err_from_is_err_and}
use Rattle.resolution.specs.Class.{is_foreign}
use Rattle.pool_rules.proofs.FirstForeignRecord.{find_records, first_is, second_is, third_is}
use Rattle.pool_rules.proofs.answer_filter.of_one_class.Goals as goal

pub returns-in_err-answers-clause-err : goal.returns-in_err-answers-clause-err
returns-in_err-answers-clause-err c =
    let p = is_foreign c.args.query.now in
    let m = c.args.message in
    let e = err_from_is_err_and c.from_residual.result c.from_residual.ensures.1 in
    rw (e.1, e.2) (find_records p m ∙ first_is (find p m.answers) (find p m.authorities) (find p m.additionals) _ c.in_err-answers.ensures.err)

pub returns-in_err-authorities-clause-err : goal.returns-in_err-authorities-clause-err
returns-in_err-authorities-clause-err c =
    let p = is_foreign c.args.query.now in
    let m = c.args.message in
    let e = err_from_is_err_and c.from_residual-in_err-authorities.result c.from_residual-in_err-authorities.ensures.1 in
    rw (e.1, e.2) (find_records p m ∙ second_is (find p m.answers) (find p m.authorities) (find p m.additionals) _ c.in_ok-answers.ensures.ok.1 c.in_err-authorities.ensures.err)

pub returns-in_err-additionals-clause-err : goal.returns-in_err-additionals-clause-err
returns-in_err-additionals-clause-err c =
    let p = is_foreign c.args.query.now in
    let m = c.args.message in
    let e = err_from_is_err_and c.from_residual-in_err-additionals.result c.from_residual-in_err-additionals.ensures.1 in
    rw (e.1, e.2) (find_records p m ∙ third_is (find p m.answers) (find p m.authorities) (find p m.additionals) c.in_ok-answers.ensures.ok.1 c.in_ok-authorities.ensures.ok.1 ∙ c.in_err-additionals.ensures.err)

pub returns-clause-ok : goal.returns-clause-ok
returns-clause-ok c =
    let p = is_foreign c.args.query.now in
    let m = c.args.message in (
      rw (c.in_ok-answers.ensures.ok.0, c.in_ok-authorities.ensures.ok.0, c.in_ok-additionals.ensures.ok.0),
      find_records p m ∙ third_is (find p m.answers) (find p m.authorities) (find p m.additionals) c.in_ok-answers.ensures.ok.1 c.in_ok-authorities.ensures.ok.1 ∙ c.in_ok-additionals.ensures.ok.1,
    )
