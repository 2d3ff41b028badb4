use Rattle.std.proofs.Common.{sym}
use Rattle.std.proofs.Common.{◌==◌}
use Rattle.resolver_settings.proofs.TextIsCut.{split_none, split_some}
use Rattle.resolver_settings.proofs.text_lines.first_line.Goals as goal

pub returns-in-None : goal.returns-in-None
returns-in-None c = split_none (λ b. b == 10) c.args.text.now (sym c.in-None.ensures)

pub returns-in-Some : goal.returns-in-Some
returns-in-Some c = split_some (λ b. b == 10) c.args.text.now c.in-Some.place (sym c.in-Some.ensures)
