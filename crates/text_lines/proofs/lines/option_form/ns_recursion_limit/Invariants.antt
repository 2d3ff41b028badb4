use Rattle.std.proofs.Common.{◌≡◌, take}
use Rattle.text_lines.specs.LineSpelling.{options_with}
use Rattle.text_lines.proofs.lines.option_form.ns_recursion_limit.Given as goal

abbrev pub invariant-loop-line : goal.invariant-loop-line
invariant-loop-line l = l.limit ≡ (options_with (take l.line-index l.written)).ns_recursion_limit
