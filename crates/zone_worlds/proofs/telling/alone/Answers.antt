use Rattle.std.proofs.Common.{rules}
use Rattle.zone_worlds.proofs.AliasAnswers.{alone_made}
use Rattle.zone_worlds.proofs.telling.alone.Goals as goal

pub returns : goal.returns
returns c = alone_made c.requires (search rules)
