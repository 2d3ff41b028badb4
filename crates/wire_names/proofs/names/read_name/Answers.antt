use Rattle.std.proofs.Common.{subst, arith}
use Rattle.wire_names.specs.Reading.{Gives}
use Rattle.wire_names.proofs.Answering.{is_found, is_rest}
use Rattle.wire_names.proofs.NameLaws.{name_again}
use Rattle.wire_names.proofs.Rests.{rest_few}
use Rattle.wire_names.proofs.names.read_name.Goals as goal

pub read_and_keep-requires-clause-few : goal.read_and_keep-requires-clause-few
read_and_keep-requires-clause-few c = rest_few c.args.message.now c.args.bytes.now c.requires.rest

pub returns-clause-found : goal.returns-clause-found
returns-clause-found c = is_found (λ x. (x.0, x.1.now)) c.args.message.now c.args.bytes.now c.read_and_keep.result (λ i. omega (arith, c.type_inv.message i)) (λ i. omega (arith, c.type_inv.bytes i)) c.read_and_keep.ensures.exact

pub returns-clause-only : goal.returns-clause-only
returns-clause-only c = λ name rest is. subst (λ f. Gives (λ x. (x.0, x.1.now)) c.read_and_keep.result f) (name_again c.args.message.now c.args.bytes.now name rest is) c.read_and_keep.ensures.exact

pub returns-clause-rest : goal.returns-clause-rest
returns-clause-rest c = is_rest (λ x. (x.0, x.1.now)) c.args.message.now c.args.bytes.now c.read_and_keep.result (λ i. omega (arith, c.type_inv.message i)) (λ i. omega (arith, c.type_inv.bytes i)) c.requires.rest c.read_and_keep.ensures.exact
