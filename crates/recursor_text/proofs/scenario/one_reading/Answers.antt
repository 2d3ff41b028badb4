use Rattle.recursor_text.proofs.OnlyLaws.{one_reading}
use Rattle.recursor_text.proofs.scenario.one_reading.Goals as goal

pub returns : goal.returns
returns c = one_reading
