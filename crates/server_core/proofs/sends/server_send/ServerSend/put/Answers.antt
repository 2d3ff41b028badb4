use Rattle.std.proofs.Common.{◌∙◌, sym}
use Rattle.server_core.proofs.OutcomeInTable.{heard_late, polled_change, lost_asks, connected_asks, polled_asks}
use Rattle.server_core.proofs.sends.server_send.ServerSend.put.Goals as goal

pub returns-then-not-is_open-clause-table : goal.returns-then-not-is_open-clause-table
returns-then-not-is_open-clause-table c =
    let s = c.args.self.now in
    heard_late c.args.tick.patience s.stage c.args.tick.now c.args.outcome s.server c.args.table.now (sym c.is_open.ensures ∙ c.if-not-is_open.true)

pub returns-in-Pending-clause-table : goal.returns-in-Pending-clause-table
returns-in-Pending-clause-table c =
    let s = c.args.self.now in
    rw c.in-Pending.is (polled_change c.args.tick.patience s.stage c.args.tick.now s.server c.args.table.now c.poll.new.table c.poll.ensures.table)

pub returns-in-Pending-clause-asks : goal.returns-in-Pending-clause-asks
returns-in-Pending-clause-asks c = rw c.poll.ensures.send (polled_asks c.args.tick.patience c.args.self.now)

pub returns-in-Connected-clause-asks : goal.returns-in-Connected-clause-asks
returns-in-Connected-clause-asks c = rw c.connect.ensures.send (connected_asks c.args.self.now)

pub returns-in-Failed-clause-asks : goal.returns-in-Failed-clause-asks
returns-in-Failed-clause-asks c = rw c.lose.ensures.send (lost_asks c.in-Failed.error c.args.self.now)
