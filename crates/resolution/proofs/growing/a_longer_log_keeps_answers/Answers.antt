use Rattle.resolution.proofs.LongerLogs.{Serves-extend, Base-extend}
use Rattle.resolution.proofs.AnswersKept.{Answer-extend}
use Rattle.resolution.proofs.growing.a_longer_log_keeps_answers.Goals as goal

pub returns-clause-serves : goal.returns-clause-serves
returns-clause-serves c = λ policy old new n ip z x s. Serves-extend policy policy.patience old new x s

pub returns-clause-base : goal.returns-clause-base
returns-clause-base c = λ policy old new t0 q i z v x b. Base-extend policy policy.patience old new x b

pub returns-clause-answer : goal.returns-clause-answer
returns-clause-answer c = λ policy less old new t0 q dnssec g r fewer x a. Answer-extend policy less fewer old new x a
