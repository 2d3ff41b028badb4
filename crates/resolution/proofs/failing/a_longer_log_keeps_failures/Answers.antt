use Rattle.resolution.specs.Timing.{known_to_drive}
use Rattle.resolution.proofs.FailuresKept.{Finished-extend, Walked-extend, Barren-extend, WalkFail-extend}
use Rattle.resolution.proofs.TimingKept.{DriveTimed-extend}
use Rattle.resolution.proofs.failing.a_longer_log_keeps_failures.Goals as goal

pub returns-clause-ended : goal.returns-clause-ended
returns-clause-ended c = λ policy less turns wanted exhausted old new t0 q z g e fewer extends f. Finished-extend policy less fewer old new extends (known_to_drive turns wanted exhausted old t0) (known_to_drive turns wanted exhausted new t0) (DriveTimed-extend policy old new extends turns wanted t0) (λ x. x) f

pub returns-clause-walked : goal.returns-clause-walked
returns-clause-walked c = λ policy less old new q z fewer extends w. Walked-extend policy less fewer old new extends q z w

pub returns-clause-barren : goal.returns-clause-barren
returns-clause-barren c = λ policy less turns wanted exhausted old new t0 names stack n d fewer extends b. Barren-extend policy less fewer old new extends (known_to_drive turns wanted exhausted old t0) (known_to_drive turns wanted exhausted new t0) (DriveTimed-extend policy old new extends turns wanted t0) (λ x. x) b

pub returns-clause-walk_fails : goal.returns-clause-walk_fails
returns-clause-walk_fails c = λ policy less turns wanted exhausted old new t0 names stack n d fewer extends w. WalkFail-extend policy less fewer old new extends (known_to_drive turns wanted exhausted old t0) (known_to_drive turns wanted exhausted new t0) (DriveTimed-extend policy old new extends turns wanted t0) (λ x. x) w
