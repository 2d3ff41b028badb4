use Rattle.std.proofs.Common.{◌≡◌}
use Rattle.text_lines.specs.LineSpelling.{standard_options, changed_by}
use Rattle.text_lines.proofs.lines.option_form.options_with.Given as goal

abbrev pub invariant-lines : goal.invariant-lines
invariant-lines l = l.options ≡ changed_by standard_options l.yielded
