use Rattle.recursor_text.proofs.TurnLaws.{moment_is}
use Rattle.recursor_text.proofs.reading.draft.last_moment.Goals as goal

pub returns-in-Some : goal.returns-in-Some
returns-in-Some c = moment_is 0 c.args.turns.now c.in-Some.turn.now c.in-Some.ensures.value
