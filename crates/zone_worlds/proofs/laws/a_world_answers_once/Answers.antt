use Rattle.zone_worlds.proofs.OneAnswer.{answers-one}
use Rattle.zone_worlds.proofs.laws.a_world_answers_once.Goals as goal

pub returns : goal.returns
returns c = answers-one
