use Rattle.std.specs.List.{IsDistinct}
use Rattle.recent_cache.proofs.cache.RecentCache.len.Goals as goal

pub returns-in-None-clause-apart : goal.returns-in-None-clause-apart
unfolding IsDistinct
returns-in-None-clause-apart g c = rw (← c.self.view_is, c.in-None.is) tt
