use Rattle.resolution.proofs.NoAddressIsInvented.{no_invention}
use Rattle.resolution.proofs.inventing.no_address_is_invented.Goals as goal

pub returns : goal.returns
returns c = λ policy log n ip z s. no_invention policy log s
