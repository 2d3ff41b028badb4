use Rattle.resolution.proofs.ZoneCase.{verdict-zone, Serves-zone, Base-zone}
use Rattle.resolution.proofs.casing.case_of_a_zone_is_ignored.Goals as goal

pub returns-clause-verdict : goal.returns-clause-verdict
returns-clause-verdict c = λ c d policy o q e. verdict-zone c d e policy o q

pub returns-clause-serves : goal.returns-clause-serves
returns-clause-serves c = λ c d policy log n ip e s. Serves-zone d e s

pub returns-clause-base : goal.returns-clause-base
returns-clause-base c = λ c d policy log t0 q i v e b. Base-zone d e b
