use Rattle.std.proofs.Common.{◌∙◌, Bool, None, cond, ap}
use Rattle.resolver_cache.specs.Index.{number_at}
use Rattle.resolver_cache.proofs.QuestionOrder.{same_by_order}
use Rattle.resolver_cache.proofs.index.displace.Goals as goal

pub returns : goal.returns
returns c = λ q.
    c.remove-number.ensures.updates.0 q
    ∙ ap (λ (b : Bool). cond b None (number_at c.args.places.now q)) (same_by_order c.args.query.now q)
