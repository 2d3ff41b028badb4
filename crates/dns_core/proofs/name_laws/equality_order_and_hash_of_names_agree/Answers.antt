use Rattle.dns_core.specs.NameLaws.{names_alike}
use Rattle.dns_core.proofs.NamesTied.{tied}
use Rattle.dns_core.proofs.name_laws.equality_order_and_hash_of_names_agree.Goals as goal

pub returns-clause-order : goal.returns-clause-order
returns-clause-order c = tied

pub returns-clause-hash : goal.returns-clause-hash
returns-clause-hash c = names_alike.fed
