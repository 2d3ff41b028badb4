use Rattle.std.proofs.Common.{sym, ◌==◌}
use Rattle.text_lines.proofs.TextIsCut.{split_none, split_some}
use Rattle.text_lines.proofs.pieces.cut.Goals as goal

pub returns-in-None-clause-parts : goal.returns-in-None-clause-parts
returns-in-None-clause-parts c = split_none (λ b. b == c.args.at) c.args.bytes.now (sym c.in-None.ensures)

pub returns-in-Some-clause-parts : goal.returns-in-Some-clause-parts
returns-in-Some-clause-parts c = split_some (λ b. b == c.args.at) c.args.bytes.now c.in-Some.place (sym c.in-Some.ensures)
