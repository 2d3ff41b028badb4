use Rattle.std.proofs.Common.{◌∙◌}
use Rattle.resolver_settings.proofs.FirstBitsSpan.{ones_left}
use Rattle.resolver_settings.proofs.net.last_ones.Goals as goal

pub returns : goal.returns
returns c = c.unwrap_or.ensures ∙ ones_left c.args.behind c.checked_shr.result c.requires c.checked_shr.ensures
