use Rattle.std.proofs.Common.{sym, ◌∙◌}
use Rattle.zone_worlds.proofs.IndexOfOneMore.{none_exist}
use Rattle.zone_worlds.proofs.index.Index.exists.Goals as goal

pub returns-else-is_fqdn : goal.returns-else-is_fqdn
returns-else-is_fqdn c = c.if-is_fqdn.false ∙ sym (none_exist c.args.world.now c.args.name.now (sym c.is_fqdn.ensures ∙ c.if-is_fqdn.false))
