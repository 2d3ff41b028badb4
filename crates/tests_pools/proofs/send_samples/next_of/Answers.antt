use Rattle.std.proofs.Common.{◌∙◌, ap, length}
use Rattle.server_core.proofs.TableChanged.{changed_length}
use Rattle.tests_pools.proofs.send_samples.next_of.Goals as goal

pub returns-in_err-next-clause-table : goal.returns-in_err-next-clause-table
returns-in_err-next-clause-table c = ap length c.in_err-next.ensures.table ∙ changed_length _ _ _

pub returns-clause-table : goal.returns-clause-table
returns-clause-table c = ap length c.in_ok-next.ensures.table ∙ changed_length _ _ _
