use Rattle.world_upstream.proofs.OpenStaysTrue.{hold_still}
use Rattle.world_upstream.proofs.upstream.WorldUpstream.gather.Goals as goal

pub invariant_of-self : goal.invariant_of-self
invariant_of-self c =
    let done = c.gather.ensures in
    hold_still c.self.inside.book c.gather.new.self done.told done.open done.world c.self.invariant
