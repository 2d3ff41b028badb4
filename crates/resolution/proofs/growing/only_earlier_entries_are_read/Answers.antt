use Rattle.std.proofs.Common.{arith}
use Rattle.resolution.proofs.LongerLogs.{Serves-keep, Serves-later}
use Rattle.resolution.proofs.growing.only_earlier_entries_are_read.Goals as goal

pub returns-clause-below : goal.returns-clause-below
returns-clause-below c = λ policy a b n ip z agree s. Serves-keep policy policy.patience a b n agree.there (omega arith) s

pub returns-clause-later : goal.returns-clause-later
returns-clause-later c = λ policy log n m ip z le s. Serves-later policy log le s
