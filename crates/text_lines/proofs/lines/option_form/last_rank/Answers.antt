use Rattle.std.proofs.Common.{◌∙◌}
use Rattle.text_lines.proofs.OptionLaws.{last_is}
use Rattle.text_lines.proofs.lines.option_form.last_rank.Goals as goal

pub returns-in-Some : goal.returns-in-Some
returns-in-Some c = c.rank.ensures ∙ last_is 0 c.args.written.now c.in-Some.line.now c.in-Some.ensures.value
