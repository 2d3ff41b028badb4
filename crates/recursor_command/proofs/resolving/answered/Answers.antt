use Rattle.recursor_command.proofs.ReadCanBeRun.{runnable}
use Rattle.recursor_command.proofs.resolving.answered.Goals as goal

pub resolved-requires : goal.resolved-requires
resolved-requires c = runnable c.args.bytes.now c.args.scenario c.requires
