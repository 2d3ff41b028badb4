use Rattle.std.proofs.Common.{ap, ◌∙◌}
use Rattle.resolver_settings.specs.TextOptions.{changed_by}
use Rattle.resolver_settings.proofs.ChangesJoin.{after_line}
use Rattle.resolver_settings.proofs.text_options.options_of.Goals as goal

pub lines-preserved : goal.lines-preserved
lines-preserved c = after_line _ c.next.new.self c.in-Some.line c.lines.options _ _ c.in-Some.ensures (c.change_all.ensures ∙ ap (λ ws. changed_by ws c.lines.options) c.option_words.ensures) c.lines.invariant
