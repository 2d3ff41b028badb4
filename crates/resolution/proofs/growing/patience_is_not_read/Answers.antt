use Rattle.std.proofs.Common.{refl, arith}
use Rattle.dns_core.specs.Log.{Log, Extends}
use Rattle.resolution.proofs.LongerLogs.{Serves-extend, Base-extend}
use Rattle.resolution.proofs.growing.patience_is_not_read.Goals as goal

itself : (log : Log) → Extends log log
itself log = record { later = omega arith; kept = λ n h. refl }

pub returns-clause-serves : goal.returns-clause-serves
returns-clause-serves c = λ policy patience log n ip z s. Serves-extend policy patience log log (itself log) s

pub returns-clause-base : goal.returns-clause-base
returns-clause-base c = λ policy patience log t0 q i z v b. Base-extend policy patience log log (itself log) b
