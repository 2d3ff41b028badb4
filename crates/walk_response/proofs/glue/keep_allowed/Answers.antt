use Rattle.std.proofs.Common.{rules}
use Rattle.std.specs.Prelude.{not}
use Rattle.std.proofs.lemmas.Fn.{filter_same}
use Rattle.std.specs.declared.net.ip_addr.IpAddr.{IpAddr}
use Rattle.resolver_settings.specs.Access.{denies}
use Rattle.walk_response.proofs.glue.keep_allowed.Goals as goal

pub returns : goal.returns
returns c = filter_same _ (λ (ip : IpAddr). not (denies c.args.filter.now ip)) _ (λ x b g h. search rules) _ _ c.retain.ensures.filtered
