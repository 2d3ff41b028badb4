use Rattle.recursor_core.proofs.AnsweredIsOver.{answered_falls}
use Rattle.recursor_core.proofs.machine.plays.put_answer.Goals as goal

pub returns-clause-falls : goal.returns-clause-falls
returns-clause-falls c = answered_falls c.args.plays.now.items c.args.q c.requires.0 c.args.reply c.requires.1
