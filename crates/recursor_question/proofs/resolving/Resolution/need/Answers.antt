use Rattle.std.proofs.Common.{rules}
use Rattle.recursor_question.proofs.resolving.Resolution.need.Goals as goal

pub returns-in-Ended : goal.returns-in-Ended
returns-in-Ended c = search rules
