use Rattle.resolution.specs.Timing.{known_to_drive}
use Rattle.resolution.proofs.ElementsFiltered.{Contains-from_Has}
use Rattle.resolution.proofs.RootsTried.{roots_tried}
use Rattle.resolution.proofs.failing.no_root_is_left_out.Goals as goal

pub returns : goal.returns
returns c = λ policy turns wanted exhausted log t0 q g ip f h. let t = roots_tried policy (known_to_drive turns wanted exhausted log t0) log q f ip h in (t.0, t.1, t.2, Contains-from_Has g t.0 t.3, t.4, t.5)
