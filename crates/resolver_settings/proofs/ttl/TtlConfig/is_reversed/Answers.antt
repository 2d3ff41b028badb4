use Rattle.std.proofs.Common.{◌≡◌, false, ap, sym, ◌∙◌, rules, tests}
use Rattle.std.specs.Prelude.{◌||◌}
use Rattle.std.specs.List.{list_any}
use Rattle.std.proofs.lemmas.Iterator.Consumers.{YieldsList-from_rest}
use Rattle.std.proofs.lemmas.Iterator.Search.{any_from_yields_List}
use Rattle.resolver_settings.specs.Ttl.{is_reversed, has_reversed}
use Rattle.resolver_settings.proofs.ttl.TtlConfig.is_reversed.Goals as goal

pub returns-else-is_reversed : goal.returns-else-is_reversed
returns-else-is_reversed c =
    let own = c.self.inside.by_type.entries in
    let some : c.any.result ≡ list_any (λ e. is_reversed e.1) own =
    any_from_yields_List (λ e. is_reversed e.1) _ _ c.any.result c.any.ensures.ran (YieldsList-from_rest own c.iter.ensures.rest) (λ x b q k. search (rules, tests)) in
    let general : is_reversed c.self.inside.general ≡ false = search (rules, tests) in
    some
    ∙ ap (λ b. b || list_any (λ e. is_reversed e.1) own) (sym general)
    ∙ ap has_reversed c.self.view_is
