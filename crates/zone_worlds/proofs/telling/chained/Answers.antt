use Rattle.std.proofs.Common.{rules}
use Rattle.zone_worlds.proofs.AliasAnswers.{chained_made}
use Rattle.zone_worlds.proofs.telling.chained.Goals as goal

pub returns : goal.returns
returns c = chained_made c.in_ok-chain.ensures c.in_ok-rest.ensures (search rules)
