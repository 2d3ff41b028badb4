use Rattle.resolver_settings.proofs.ReadNumbers.{number_is}
use Rattle.resolver_settings.proofs.text_options.number_of.Goals as goal

pub returns : goal.returns
returns c = number_is c.args.word.now c.number_in.result c.number_in.ensures
