use Rattle.resolution.proofs.Caseless.{class_of-same, verdict-same, Base-same}
use Rattle.resolution.proofs.casing.case_of_a_question_is_ignored.Goals as goal

pub returns-clause-class : goal.returns-clause-class
returns-clause-class c = λ q p o e. class_of-same q p e o

pub returns-clause-verdict : goal.returns-clause-verdict
returns-clause-verdict c = λ q p policy o z e. verdict-same q p e policy o z

pub returns-clause-base : goal.returns-clause-base
returns-clause-base c = λ q p policy log t0 i z v e b. Base-same q p e b
