use Rattle.std.proofs.Common.{rules}
use Rattle.resolver_cache.proofs.life.seconds_between.Goals as goal

pub returns : goal.returns
returns c = search rules
