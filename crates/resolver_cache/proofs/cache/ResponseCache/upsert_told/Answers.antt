use Rattle.std.specs.Map.{values_of}
use Rattle.resolver_cache.proofs.CacheWithinSize.{kept_by_put}
use Rattle.resolver_cache.proofs.cache.ResponseCache.upsert_told.Goals as goal

pub invariant_of-self : goal.invariant_of-self
invariant_of-self c =
    (kept_by_put c.put.result c.self.inside.size _ (values_of c.self.inside.index.writings) (values_of c.put.new.self.writings) c.put.ensures.ok c.put.ensures.err c.self.invariant.0, c.put.ensures.placed)
