use Rattle.std.proofs.Common.{sym, ◌∙◌}
use Rattle.resolver_settings.proofs.OneAddress.{address_is_ip, none_with_a_dot}
use Rattle.resolver_settings.proofs.address_text.address_in.Goals as goal

pub returns-in_default : goal.returns-in_default
returns-in_default c = λ a h. c.in_default.ensures a (address_is_ip c.args.word.now a h)

pub returns-then-contains : goal.returns-then-contains
returns-then-contains c = none_with_a_dot c.args.word.now c.in-Ok.ip c.in-Ok.ensures (sym c.is_ipv6.ensures ∙ c.if-is_ipv6.true) (sym c.contains.ensures.value ∙ c.if-contains.true)
