use Rattle.server_core.proofs.Factors.{reads-no-higher}
use Rattle.server_core.proofs.delay_laws.reading_never_raises_a_delay.Goals as goal

pub returns : goal.returns
returns c = reads-no-higher
