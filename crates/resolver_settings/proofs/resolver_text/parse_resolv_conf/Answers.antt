use Rattle.std.proofs.Common.{subst, ◌∙◌}
use Rattle.resolver_settings.specs.ResolverText.{conf_of}
use Rattle.resolver_settings.specs.ConfError.{Gives}
use Rattle.resolver_settings.specs.TextLines.{lines_of}
use Rattle.resolver_settings.specs.TextServers.{server_words}
use Rattle.resolver_settings.proofs.InOrder.{one_list}
use Rattle.resolver_settings.proofs.resolver_text.parse_resolv_conf.Goals as goal

pub returns-clause-only : goal.returns-clause-only
returns-clause-only c = λ addresses given.
    let same = one_list (server_words (lines_of c.args.text.now)) c.in_ok-addresses.addresses.items addresses c.in_ok-addresses.ensures given in
    subst (λ as'. Gives c.with_servers.result (conf_of as' (lines_of c.args.text.now) c.args.host.now)) (c.deref.ensures.value ∙ same) c.with_servers.ensures
