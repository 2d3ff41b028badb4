use Rattle.dns_core.specs.Classifying.{no_records}
use Rattle.resolution.specs.Walking.{at_any_time}
use Rattle.world_facts.proofs.NoFailure.{ended-denied}
use Rattle.world_facts.proofs.failing.no_lookup_fails.Goals as goal

pub returns : goal.returns
returns c = λ given w log t0 q z g e ok by in_class f. let d = ended-denied given w log ok by at_any_time t0 q z g e in_class f in (no_records d.message, d.is)
