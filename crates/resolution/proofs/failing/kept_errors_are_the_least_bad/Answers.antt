use Rattle.resolution.proofs.KeptErrors.{from_none, from_truncated}
use Rattle.resolution.proofs.failing.kept_errors_are_the_least_bad.Goals as goal

pub returns-clause-plain : goal.returns-clause-plain
returns-clause-plain c = from_none

pub returns-clause-truncated : goal.returns-clause-truncated
returns-clause-truncated c = from_truncated
