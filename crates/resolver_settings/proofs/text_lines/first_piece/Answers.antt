use Rattle.std.proofs.Common.{sym}
use Rattle.resolver_settings.specs.TextLines.{is_blank}
use Rattle.resolver_settings.proofs.TextIsCut.{split_none, split_some}
use Rattle.resolver_settings.proofs.text_lines.first_piece.Goals as goal

pub returns-in-None-clause-parts : goal.returns-in-None-clause-parts
returns-in-None-clause-parts c = split_none is_blank c.args.text.now (sym c.in-None.ensures)

pub returns-in-Some-clause-parts : goal.returns-in-Some-clause-parts
returns-in-Some-clause-parts c = split_some is_blank c.args.text.now c.in-Some.place (sym c.in-Some.ensures)
