use Rattle.std.proofs.Common.{subst, arith}
use Rattle.wire_names.specs.Reading.{Gives}
use Rattle.dns_wire.proofs.MessageLaws.{is_found, message_again}
use Rattle.dns_wire.proofs.WritableMessages.{is_writable}
use Rattle.dns_wire.proofs.reading.read.Goals as goal

pub returns-clause-found : goal.returns-clause-found
returns-clause-found c = is_found c.args.bytes.now c.read_message.result (λ i. omega (arith, c.type_inv.bytes i)) c.read_message.ensures

pub returns-clause-only : goal.returns-clause-only
returns-clause-only c = λ message is. subst (λ f. Gives (λ m. m) c.read_message.result f) (message_again c.args.bytes.now message (λ i. omega (arith, c.type_inv.bytes i)) is) c.read_message.ensures

pub returns-clause-writable : goal.returns-clause-writable
returns-clause-writable c = is_writable c.args.bytes.now c.read_message.result (λ i. omega (arith, c.type_inv.bytes i)) c.read_message.ensures
