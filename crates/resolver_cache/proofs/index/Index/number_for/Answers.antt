use Rattle.std.proofs.Common.{◌∙◌}
use Rattle.resolver_cache.proofs.index.Index.number_for.Goals as goal

pub returns-in-Some : goal.returns-in-Some
returns-in-Some c = c.in-Some.ensures.value ∙ c.requires c.args.query.now

pub returns-in-None : goal.returns-in-None
returns-in-None c = c.in-None.ensures.value ∙ c.requires c.args.query.now
