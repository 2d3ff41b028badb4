use Rattle.std.proofs.Common.{◌∙◌, sym, ap}
use Rattle.wire_names.specs.Reading.{name_of}
use Rattle.wire_names.proofs.names.read_and_keep.Goals as goal

pub returns-in_err-keep-clause-kept : goal.returns-in_err-keep-clause-kept
returns-in_err-keep-clause-kept c = c.keep.ensures.kept c.args.message.now c.in_ok-name.ensures.kept (c.in_ok-name.rest.now, ap (name_of c.args.message.now) (sym c.requires.rest) ∙ c.in_ok-name.ensures.exact)

pub returns-clause-kept : goal.returns-clause-kept
returns-clause-kept c = c.keep.ensures.kept c.args.message.now c.in_ok-name.ensures.kept (c.in_ok-name.rest.now, ap (name_of c.args.message.now) (sym c.requires.rest) ∙ c.in_ok-name.ensures.exact)
