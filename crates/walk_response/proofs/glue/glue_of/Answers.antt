use Rattle.std.proofs.Common.{rules}
use Rattle.walk_response.proofs.glue.glue_of.Goals as goal

pub returns-in-A : goal.returns-in-A
returns-in-A c = search rules
