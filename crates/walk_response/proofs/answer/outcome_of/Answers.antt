use Rattle.std.proofs.Common.{rules}
use Rattle.walk_response.proofs.answer.outcome_of.Goals as goal

pub returns-in-Pos : goal.returns-in-Pos
returns-in-Pos c = search rules
