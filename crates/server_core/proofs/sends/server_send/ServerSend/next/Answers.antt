use Rattle.std.proofs.Common.{◌∙◌, sym, ap}
use Rattle.server_core.specs.Hearing.{without_dead}
use Rattle.server_core.specs.declared.sends.server_send.ServerSend.{ServerSend}
use Rattle.server_core.proofs.SendStages.{ready_of, opened_of, table_waits, table_tells}
use Rattle.server_core.proofs.SendSteps.{there_is, step_begins, step_asks, table_begins, table_asks, asks_begun, asks_asked}
use Rattle.server_core.proofs.sends.server_send.ServerSend.next.Goals as goal

pub returns-in-Begin-clause-table : goal.returns-in-Begin-clause-table
returns-in-Begin-clause-table c =
    let s = c.args.self.now in
    let ready = ready_of s.stage (sym c.want.ensures ∙ c.in-Begin.is) in
    table_begins s.stage s.server c.args.table.now c.begin.new.table c.begin.result ready c.begin.ensures.table

pub returns-in-Begin-clause-step : goal.returns-in-Begin-clause-step
returns-in-Begin-clause-step c = λ server there.
    let s = c.args.self.now in
    let ready = ready_of s.stage (sym c.want.ensures ∙ c.in-Begin.is) in
    step_begins s s.stage _ c.args.number c.args.tick.now server c.begin.result ready (c.begin.ensures.step server there)

pub returns-in-Begin-clause-asks : goal.returns-in-Begin-clause-asks
returns-in-Begin-clause-asks c =
    let s = c.args.self.now in
    let ready = ready_of s.stage (sym c.want.ensures ∙ c.in-Begin.is) in
    let server = there_is s.server c.args.table.now c.requires in
    let retried = ap (λ (x : ServerSend). x.retried) c.begin.ensures.same in
    asks_begun s c.begin.new.self c.args.number c.args.tick.now (without_dead server.0) c.begin.result ready retried
    (c.begin.ensures.step server.0 server.1)

pub returns-in-Ask-clause-table : goal.returns-in-Ask-clause-table
returns-in-Ask-clause-table c =
    let s = c.args.self.now in
    let ask = c.in-Ask in
    let asks = c.ask_first in
    let opened = opened_of s.stage ask.protocol ask.conn (sym c.want.ensures ∙ ask.is) in
    table_asks s.stage s.server ask.conn ask.protocol c.args.table.now asks.new.table asks.result opened asks.ensures.table asks.ensures.kept

pub returns-in-Ask-clause-step : goal.returns-in-Ask-clause-step
returns-in-Ask-clause-step c = λ server there.
    let s = c.args.self.now in
    let ask = c.in-Ask in
    let opened = opened_of s.stage ask.protocol ask.conn (sym c.want.ensures ∙ ask.is) in
    step_asks s s.stage _ c.args.number c.args.tick.now ask.conn ask.protocol server c.ask_first.result opened (c.ask_first.ensures.step server there)

pub returns-in-Ask-clause-asks : goal.returns-in-Ask-clause-asks
returns-in-Ask-clause-asks c =
    let s = c.args.self.now in
    let ask = c.in-Ask in
    let opened = opened_of s.stage ask.protocol ask.conn (sym c.want.ensures ∙ ask.is) in
    let server = there_is s.server c.args.table.now c.requires in
    let retried = ap (λ (x : ServerSend). x.retried) c.ask_first.ensures.same in
    asks_asked s c.ask_first.new.self c.args.tick.now ask.conn ask.protocol server.0 c.ask_first.result opened retried
    (c.ask_first.ensures.step server.0 server.1)

pub returns-in-Wait-clause-table : goal.returns-in-Wait-clause-table
returns-in-Wait-clause-table c =
    let s = c.args.self.now in
    sym (table_waits s.stage s.server c.args.table.now (sym c.want.ensures ∙ c.in-Wait.is))

pub returns-in-Tell-clause-table : goal.returns-in-Tell-clause-table
returns-in-Tell-clause-table c =
    let s = c.args.self.now in
    sym (table_tells s.stage c.tell.new.self.stage c.tell.result s.server c.args.table.now c.tell.ensures.tells)
