use Rattle.resolver_settings.proofs.FirstBitsSpan.{any_contained}
use Rattle.resolver_settings.proofs.access.is_in_any.Goals as goal

pub returns : goal.returns
returns c = any_contained _ c.args.ip c.is_ipv4.result c.number.result c.holds_number.result c.is_ipv4.ensures c.number.ensures.number c.holds_number.ensures
