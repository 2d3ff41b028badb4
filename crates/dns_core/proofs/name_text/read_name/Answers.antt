use Rattle.std.proofs.Common.{arith}
use Rattle.std.proofs.lemmas.Bool.Decides.{nat_tests}
use Rattle.dns_core.proofs.LabelsFit.{faultless_fit}
use Rattle.dns_core.proofs.name_text.read_name.Goals as goal

pub from_labels-requires : goal.from_labels-requires
from_labels-requires c = faultless_fit c.args.strict c.if-fqdn.labels.items (grind (arith, c.in_default.not-Some)) (grind (arith, nat_tests))
