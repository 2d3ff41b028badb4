use Rattle.std.proofs.Common.{◌∙◌, sym, ap, Ok}
use Rattle.dns_core.specs.Name.{DomainName}
use Rattle.wire_names.proofs.NameLaws.{pointed_name, read_there}
use Rattle.wire_names.proofs.names.read_pointed.Goals as goal

pub returns-in-Some-clause-exact : goal.returns-in-Some-clause-exact
returns-in-Some-clause-exact c =
    let here = c.in-Some.ensures c.args.message.now c.requires.kept in
    pointed_name c.args.message.now c.args.bytes.now c.args.rest.now c.args.to c.in-Some.name.now c.requires.pointed c.if-to-message.true here
    ∙ ap (λ (name : DomainName). Ok (name, c.args.rest.now)) (sym c.in_ok-copy.ensures)

pub returns-in_err-keep-clause-kept : goal.returns-in_err-keep-clause-kept
returns-in_err-keep-clause-kept c =
    let there = read_there c.args.message.now c.args.bytes.now c.args.rest.now c.in_ok-name.rest.now c.args.to c.in_ok-name.name c.requires.pointed c.in_ok-name.ensures.exact in
    c.keep.ensures.kept c.args.message.now c.in_ok-name.ensures.kept there

pub returns-clause-kept : goal.returns-clause-kept
returns-clause-kept c =
    let there = read_there c.args.message.now c.args.bytes.now c.args.rest.now c.in_ok-name.rest.now c.args.to c.in_ok-name.name c.requires.pointed c.in_ok-name.ensures.exact in
    c.keep.ensures.kept c.args.message.now c.in_ok-name.ensures.kept there
