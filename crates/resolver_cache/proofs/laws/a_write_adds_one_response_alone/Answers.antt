use Rattle.resolver_cache.proofs.OneWritten.{writes_no_other}
use Rattle.resolver_cache.proofs.laws.a_write_adds_one_response_alone.Goals as goal

pub returns : goal.returns
returns c = writes_no_other
