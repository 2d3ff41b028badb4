use Rattle.std.proofs.Common.{◌∙◌, sym}
use Rattle.server_core.proofs.OutcomeInTable.{lost_nothing}
use Rattle.server_core.proofs.sends.server_send.ServerSend.lose.Goals as goal

pub returns-in-None-clause-table : goal.returns-in-None-clause-table
returns-in-None-clause-table c =
    lost_nothing _ c.args.now c.args.error c.args.self.now.server c.args.table.now (sym c.asked.ensures ∙ c.in-None.is)
