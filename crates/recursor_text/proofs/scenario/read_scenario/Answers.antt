use Rattle.recursor_text.proofs.OnlyLaws.{found_in, only_in}
use Rattle.recursor_text.proofs.ExactLaws.{line_in}
use Rattle.recursor_text.proofs.scenario.read_scenario.Goals as goal

pub returns-clause-found : goal.returns-clause-found
returns-clause-found c = found_in c.args.bytes.now _ c.read_lines.ensures

pub returns-clause-only : goal.returns-clause-only
returns-clause-only c = λ s reads. only_in c.args.bytes.now s _ reads c.read_lines.ensures

pub returns-clause-line : goal.returns-clause-line
returns-clause-line c = line_in c.args.bytes.now _ c.read_lines.ensures
