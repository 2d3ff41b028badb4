use Rattle.std.proofs.Common.{sym, ap, ◌∙◌}
use Rattle.recursor_types.specs.declared.options.RecursorOptions.{RecursorOptions}
use Rattle.text_lines.specs.LineSpelling.{standard_options, changed}
use Rattle.text_lines.proofs.OptionLaws.{changed_push}
use Rattle.text_lines.proofs.lines.option_form.options_with.Goals as goal

pub lines-preserved : goal.lines-preserved
lines-preserved c = c.change.ensures ∙ ap (λ (o : RecursorOptions). changed o c.in-Some.line) c.lines.invariant ∙ sym (changed_push standard_options c.lines.yielded c.in-Some.line)
