use Rattle.std.proofs.Common.{◌∙◌}
use Rattle.resolver_cache.proofs.EntriesUnderQuestions.{has_one}
use Rattle.resolver_cache.proofs.index.Index.has.Goals as goal

pub returns : goal.returns
returns c = c.contains_key.ensures ∙ has_one c.args.query.now c.args.self.now.writings c.args.self.now.places c.requires
