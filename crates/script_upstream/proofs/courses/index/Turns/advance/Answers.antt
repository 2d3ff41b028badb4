use Rattle.std.proofs.Common.{rules}
use Rattle.script_upstream.proofs.courses.index.Turns.advance.Goals as goal

pub returns-then-self-saturating_sub : goal.returns-then-self-saturating_sub
returns-then-self-saturating_sub c = search rules
