use Rattle.recursor_core.proofs.MachineWords.{◌∙◌, ap, [], Cached}
use Rattle.resolver_settings.specs.Ttl.{TtlTable}
use Rattle.recursor_core.proofs.machine.resolutions.cache_of.Goals as goal

pub returns : goal.returns
returns c = c.in-Ok.ensures.ok ∙ ap (λ (t : TtlTable). let cache : Cached = record { size = c.args.policy.now.response_cache_size; config = t; entries = [] } in cache) c.in_ok-bounds.ensures
