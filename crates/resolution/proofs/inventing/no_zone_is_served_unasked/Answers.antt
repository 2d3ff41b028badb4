use Rattle.resolution.proofs.NoAddressIsInvented.{served_was_asked}
use Rattle.resolution.proofs.inventing.no_zone_is_served_unasked.Goals as goal

pub returns : goal.returns
returns c = λ policy log n ip z s. served_was_asked policy log s
