use Rattle.resolver_settings.specs.TextLines.{lines_of}
use Rattle.resolver_settings.proofs.StrictNames.{no_domain}
use Rattle.resolver_settings.proofs.search_list.domain_of.Goals as goal

pub returns-in-Err : goal.returns-in-Err
returns-in-Err c = no_domain (lines_of c.args.text.now) c.args.host.now c.in-Some.word.now c.in-Some.ensures c.in-Err.ensures.cases.0
