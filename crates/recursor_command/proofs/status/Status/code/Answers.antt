use Rattle.std.proofs.Common.{rules}
use Rattle.recursor_command.proofs.status.Status.code.Goals as goal

pub returns-in-BadScenario : goal.returns-in-BadScenario
returns-in-BadScenario c = search rules
