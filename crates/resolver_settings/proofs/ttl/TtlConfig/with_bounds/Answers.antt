use Rattle.std.proofs.Common.{ap, sym, ◌∙◌}
use Rattle.std.specs.Option.{unwrap_or}
use Rattle.resolver_settings.specs.Ttl.{bounds_of}
use Rattle.resolver_settings.proofs.ByOrder.{same_by_order, bounds_by_order}
use Rattle.resolver_settings.proofs.ttl.TtlConfig.with_bounds.Goals as goal

pub returns-clause-others : goal.returns-clause-others
returns-clause-others c t h =
    let general = c.config.inside.general in
    bounds_by_order c.insert.new.self.entries general t
    ∙ ap (λ o. unwrap_or o general) (c.in_ok-insert.ensures.updates.2 t (sym (same_by_order c.args.query_type t) ∙ h))
    ∙ sym (bounds_by_order c.config.inside.by_type.entries general t)
    ∙ ap (λ table. bounds_of table t) c.config.view_is
