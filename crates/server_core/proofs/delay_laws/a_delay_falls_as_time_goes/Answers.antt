use Rattle.server_core.proofs.Factors.{reads-lower-later}
use Rattle.server_core.proofs.delay_laws.a_delay_falls_as_time_goes.Goals as goal

pub returns : goal.returns
returns c = reads-lower-later
