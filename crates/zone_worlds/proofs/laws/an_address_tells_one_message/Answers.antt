use Rattle.zone_worlds.proofs.OneTold.{tells-one}
use Rattle.zone_worlds.proofs.laws.an_address_tells_one_message.Goals as goal

pub returns : goal.returns
returns c = tells-one
