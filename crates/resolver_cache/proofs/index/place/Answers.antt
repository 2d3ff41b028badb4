use Rattle.std.proofs.Common.{◌∙◌, Bool, Some, cond, ap}
use Rattle.resolver_cache.specs.Index.{number_at}
use Rattle.resolver_cache.proofs.QuestionOrder.{same_by_order}
use Rattle.resolver_cache.proofs.index.place.Goals as goal

pub returns-clause-ok : goal.returns-clause-ok
returns-clause-ok c = λ q.
    c.in_ok-_before.ensures.updates.0 q
    ∙ ap (λ (b : Bool). cond b (Some c.args.number) (number_at c.args.places.now q)) (same_by_order c.args.query q)
