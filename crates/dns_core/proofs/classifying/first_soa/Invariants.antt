use Rattle.std.proofs.Common.{◌≡◌, drop}
use Rattle.std.specs.Prelude.{find}
use Rattle.dns_core.specs.Classifying.{is_soa}
use Rattle.dns_core.proofs.classifying.first_soa.Given as goal

abbrev pub invariant-loop-r : goal.invariant-loop-r
invariant-loop-r l = find is_soa (drop l.r-index l.records) ≡ find is_soa l.records
