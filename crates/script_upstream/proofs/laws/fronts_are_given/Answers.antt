use Rattle.script_upstream.proofs.LogStaysTrue.{gives_front}
use Rattle.script_upstream.proofs.laws.fronts_are_given.Goals as goal

pub returns : goal.returns
returns c = gives_front
