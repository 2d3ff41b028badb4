use Rattle.resolution.specs.Timing.{known_to_drive}
use Rattle.resolution.proofs.FailuresCaseless.{Finished-same, DriveTimed-same}
use Rattle.resolution.proofs.failing.case_of_a_failure_is_ignored.Goals as goal

pub returns : goal.returns
returns c = λ q p policy turns wanted exhausted log t0 z g e same f. Finished-same q p same (known_to_drive turns wanted exhausted log t0) (known_to_drive turns wanted exhausted log t0) (DriveTimed-same q p same turns wanted log t0) f
