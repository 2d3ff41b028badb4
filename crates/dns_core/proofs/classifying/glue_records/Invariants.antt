use Rattle.std.proofs.Common.{◌≡◌, take}
use Rattle.std.specs.Prelude.{filter}
use Rattle.dns_core.specs.Classifying.{is_glue_for}
use Rattle.dns_core.proofs.classifying.glue_records.Given as goal

abbrev pub invariant-loop-r : goal.invariant-loop-r
invariant-loop-r l = l.glue.items ≡ filter (is_glue_for l.target) (take l.r-index l.additionals)
