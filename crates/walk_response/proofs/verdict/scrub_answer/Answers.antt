use Rattle.std.proofs.Common.{◌∙◌}
use Rattle.walk_response.proofs.NothingIsDenied.{emptied_by, made_of, pos_of}
use Rattle.walk_response.proofs.verdict.scrub_answer.Goals as goal

pub returns-then-is_emptied : goal.returns-then-is_emptied
returns-then-is_emptied c =
    made_of c.args.message c.in_bailiwick-kept.result c.args.zone.now c.in_bailiwick-kept.ensures
    (emptied_by c.args.message c.in_bailiwick-kept.result c.is_empty-answered.result c.is_empty-no_answers.result c.is_empty-delegated.result c.is_empty-no_authorities.result c.is_emptied.result c.is_empty-answered.ensures c.is_empty-no_answers.ensures c.is_empty-delegated.ensures c.is_empty-no_authorities.ensures c.is_emptied.ensures ∙ c.if-is_emptied.true)

pub returns-else-is_emptied : goal.returns-else-is_emptied
returns-else-is_emptied c =
    pos_of c.args.message c.in_bailiwick-kept.result c.args.zone.now c.in_bailiwick-kept.ensures
    (emptied_by c.args.message c.in_bailiwick-kept.result c.is_empty-answered.result c.is_empty-no_answers.result c.is_empty-delegated.result c.is_empty-no_authorities.result c.is_emptied.result c.is_empty-answered.ensures c.is_empty-no_answers.ensures c.is_empty-delegated.ensures c.is_empty-no_authorities.ensures c.is_emptied.ensures ∙ c.if-is_emptied.false)
