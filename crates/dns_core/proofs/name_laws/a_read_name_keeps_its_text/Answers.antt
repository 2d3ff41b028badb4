use Rattle.dns_core.proofs.TextsRead.{written_back, read_again}
use Rattle.dns_core.proofs.name_laws.a_read_name_keeps_its_text.Goals as goal

pub returns-clause-written : goal.returns-clause-written
returns-clause-written c = written_back

pub returns-clause-again : goal.returns-clause-again
returns-clause-again c = read_again
