use Rattle.recursor_core.proofs.AnsweredIsOver.{unanswered_falls}
use Rattle.recursor_core.proofs.machine.plays.leave_unanswered.Goals as goal

pub returns-clause-falls : goal.returns-clause-falls
returns-clause-falls c = unanswered_falls c.args.plays.now.items c.args.q c.requires.0 c.requires.1
