use Rattle.recursor_text.proofs.RunLaws.{found, run_again}
use Rattle.recursor_text.proofs.world_reading.laws.a_world_is_what_its_lines_say.Goals as goal

pub returns-clause-found : goal.returns-clause-found
returns-clause-found c = found

pub returns-clause-only : goal.returns-clause-only
returns-clause-only c = run_again
