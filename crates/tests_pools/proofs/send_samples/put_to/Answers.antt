use Rattle.std.proofs.Common.{◌∙◌, ap, length}
use Rattle.server_core.specs.declared.sends.server_send.ServerSend.{ServerSend}
use Rattle.server_core.proofs.TableChanged.{changed_length}
use Rattle.server_core.proofs.SendComesTo.{come_same}
use Rattle.tests_pools.proofs.send_samples.put_to.Goals as goal

pub returns-clause-table : goal.returns-clause-table
returns-clause-table c = ap length c.in_ok-put.ensures.table ∙ changed_length _ _ _

pub returns-clause-server : goal.returns-clause-server
returns-clause-server c =
    ap (λ (s : ServerSend). s.server) c.in_ok-put.ensures.send
    ∙ ap (λ (s : ServerSend). s.server) (come_same c.tick.result.patience c.in_ok-outcome.outcome c.args.send.now)
