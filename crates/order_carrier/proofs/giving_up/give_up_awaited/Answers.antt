use Rattle.std.proofs.Common.{ℕ, ◌∙◌}
use Rattle.dns_core.specs.declared.log.LogEntry.TheVariants.{GaveUp}
use Rattle.order_carrier.proofs.ProviderTellsPolls.{added-named}
use Rattle.order_carrier.proofs.giving_up.give_up_awaited.Goals as goal

pub returns-in-Connection-clause-log : goal.returns-in-Connection-clause-log
returns-in-Connection-clause-log g c =
    let p = g.P.ConnectionProvider in
    rw c.in-Connection.is (c.give_up_connection.ensures.log ∙ added-named (p.log c.args.provider.now) (λ (of : ℕ). GaveUp of c.args.now) (p.opened c.in-Connection.future) c.in-Connection.sent.of (rw c.in-Connection.is at c.requires))

pub returns-in-Answer-clause-log : goal.returns-in-Answer-clause-log
returns-in-Answer-clause-log g c =
    let p = g.P.ConnectionProvider in
    rw c.in-Answer.is (c.give_up.ensures.log ∙ added-named (p.log c.args.provider.now) (λ (of : ℕ). GaveUp of c.args.now) (p.asked c.in-Answer.exchange) c.in-Answer.sent.of (rw c.in-Answer.is at c.requires))
