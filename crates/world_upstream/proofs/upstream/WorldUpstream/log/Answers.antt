use Rattle.std.proofs.Common.{subst}
use Rattle.world_upstream.specs.Giving.{Gives}
use Rattle.world_upstream.specs.Upstream.{Upstream, told_by}
use Rattle.world_upstream.proofs.upstream.WorldUpstream.log.Goals as goal

pub returns-clause-gives : goal.returns-clause-gives
returns-clause-gives c = subst (λ (u : Upstream). Gives u.world (told_by u)) c.self.view_is c.self.invariant.keeps.gives
