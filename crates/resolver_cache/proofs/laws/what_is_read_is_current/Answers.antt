use Rattle.resolver_cache.proofs.CurrentRead.{read_is_current}
use Rattle.resolver_cache.proofs.laws.what_is_read_is_current.Goals as goal

pub returns : goal.returns
returns c = read_is_current
