use Rattle.std.proofs.Common.{◌∙◌, sym}
use Rattle.dns_core.specs.declared.net_error.IoKind.TheVariants.{Other}
use Rattle.dns_core.specs.declared.net_error.NetError.TheVariants.{Io}
use Rattle.server_core.proofs.OutcomeInTable.{lost_nothing, opening_asks}
use Rattle.server_core.proofs.sends.server_send.ServerSend.connect.Goals as goal

pub returns-in-Some-clause-table : goal.returns-in-Some-clause-table
returns-in-Some-clause-table c =
    let s = c.args.self.now in
    let no_question = opening_asks s.stage c.in-Some.opening (sym c.opening.ensures ∙ c.in-Some.is) in
    lost_nothing _ c.args.now (Io Other) s.server c.args.table.now no_question
