use Rattle.std.proofs.Common.{ap, sym, ◌∙◌}
use Rattle.std.specs.Prelude.{◌==◌}
use Rattle.resolver_cache.specs.Cached.{Cached}
use Rattle.resolver_cache.proofs.OneWritten.{same_of_size_0}
use Rattle.resolver_cache.proofs.cache.ResponseCache.keeps_nothing.Goals as goal

pub returns-clause-nothing : goal.returns-clause-nothing
returns-clause-nothing c is = same_of_size_0 c.args.self.now (ap (λ (cache : Cached). cache.size == 0) (sym c.self.view_is) ∙ is)
