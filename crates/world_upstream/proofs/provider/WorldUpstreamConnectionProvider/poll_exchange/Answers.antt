use Rattle.std.proofs.Common.{ap, ◌∙◌, subst}
use Rattle.world_upstream.specs.Giving.{Gives}
use Rattle.zone_rules.specs.declared.world.World.{World}
use Rattle.world_upstream.proofs.provider.WorldUpstreamConnectionProvider.poll_exchange.Goals as goal

pub returns-in-Pending-clause-vouches : goal.returns-in-Pending-clause-vouches
returns-in-Pending-clause-vouches c = λ es g.
    subst (λ (w : World). Gives w es) (ap (λ u. u.world) c.count_pending.ensures.same ∙ c.in-Pending.ensures.world) g
