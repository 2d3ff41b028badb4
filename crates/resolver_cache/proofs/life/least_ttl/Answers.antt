use Rattle.resolver_cache.proofs.LeastFound.{least_by_section}
use Rattle.resolver_cache.proofs.life.least_ttl.Goals as goal

pub returns : goal.returns
returns c = let e = least_by_section c.args.message.now in cc
