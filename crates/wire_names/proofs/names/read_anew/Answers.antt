use Rattle.std.proofs.Common.{arith}
use Rattle.wire_names.proofs.NameLaws.{labels_fit}
use Rattle.wire_names.proofs.names.read_anew.Goals as goal

pub from_labels-requires : goal.from_labels-requires
from_labels-requires c = labels_fit c.args.message.now c.args.bytes.now c.in_ok-labels.labels.items c.in_ok-labels.rest.now (λ i. omega (arith, c.type_inv.message i)) (λ i. omega (arith, c.type_inv.bytes i)) c.in_ok-labels.ensures.labels
