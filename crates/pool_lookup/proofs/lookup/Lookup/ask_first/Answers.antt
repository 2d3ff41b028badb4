use Rattle.std.proofs.Common.{◌≡◌, ◌∙◌, List, length, refl, ap, sym, subst, arith, inl, inr}
use Rattle.server_core.specs.Hearing.{changed_at}
use Rattle.server_core.specs.Sending.{after_step, after_want}
use Rattle.pool_rules.specs.declared.pool_server.PoolServer.{PoolServer}
use Rattle.pool_lookup.specs.declared.attempt.Attempt.{Attempt}
use Rattle.pool_lookup.specs.Attempts.{CanGive}
use Rattle.pool_lookup.specs.Giving.{Orders, ordered}
use Rattle.pool_lookup.specs.Lookup.{LookupState}
use Rattle.pool_lookup.proofs.StepsCanBeTaken.{begin_asks, can_ask_first}
use Rattle.pool_lookup.proofs.NextStepGives.{begun, made_first, moved_on, stepped_begin}
use Rattle.pool_lookup.proofs.AttemptIsWritten.{on_err_always}
use Rattle.pool_lookup.proofs.lookup.Lookup.ask_first.Goals as goal

pub returns-in_err-request-clause-halted : goal.returns-in_err-request-clause-halted
returns-in_err-request-clause-halted c = on_err_always c.from_residual.result (inl refl)

pub give-requires : goal.give-requires
give-requires c =
    let l = c.args.self.now in
    let request : c.in_ok-request.request ≡ l.request = cc (c.in_ok-request.ensures, c.self.view_is) in
    let first = made_first l _ c.args.candidate c.in_ok-request.request c.first-attempt.result c.self.view_is request c.first-attempt.ensures in
    subst (λ (a : Attempt). CanGive c.args.table.now a) (sym first) (can_ask_first l c.args.table.now c.args.candidate c.requires.can.0 c.requires.can.1 c.requires.want)

pub push_reserved-requires : goal.push_reserved-requires
push_reserved-requires c =
    let l = c.args.self.now in
    let some = ap (λ (cs : List PoolServer). length cs) (begin_asks l c.args.candidate c.requires.want).1.1 in
    let round = c.requires.can.0.1.1.keeps.round in
    let begun = ap (λ (s : LookupState). length s.attempts) c.self.view_is in
    let all = ap (λ (s : LookupState). length s.servers) c.self.view_is in
    let room = c.self.invariant.1 in
    let size = c.self.inside.attempts.ok.0 in
    omega (arith, some, round, begun, all, room, size)

pub returns-clause-gives : goal.returns-clause-gives
returns-clause-gives c =
    let l = c.args.self.now in
    let request : c.in_ok-request.request ≡ l.request = cc (c.in_ok-request.ensures, c.self.view_is) in
    let first = made_first l _ c.args.candidate c.in_ok-request.request c.first-attempt.result c.self.view_is request c.first-attempt.ensures in
    let x = c.give.new.self in
    let left = (begin_asks l c.args.candidate c.requires.want).1 in
    begun l _ c.args.candidate c.args.number c.args.tick.now c.args.table.now c.in_ok-order.order x left.0 c.requires.want left.1
    (subst (λ (a : Attempt). Orders c.args.number c.args.tick.now c.args.table.now a c.in_ok-order.order x.send.stage) first c.in_ok-order.ensures.orders)
    (c.in_ok-order.ensures.ok ∙ ap (ordered c.args.number x.send.stage) first)
    (moved_on l _ c.args.candidate left.0 c.pop_front-first.new.self.items x c.push_reserved.new.self.items c.self.view_is left.1 c.pop_front-first.ensures.rest c.push_reserved.ensures.items)

pub returns-clause-table : goal.returns-clause-table
returns-clause-table c =
    let l = c.args.self.now in
    let request : c.in_ok-request.request ≡ l.request = cc (c.in_ok-request.ensures, c.self.view_is) in
    let first = made_first l _ c.args.candidate c.in_ok-request.request c.first-attempt.result c.self.view_is request c.first-attempt.ensures in
    subst (λ (a : Attempt). c.give.new.table ≡ changed_at (after_step a.send.stage) a.send.server c.args.table.now) first c.in_ok-order.ensures.table
    ∙ sym (stepped_begin l c.args.candidate c.args.table.now c.requires.want).0

pub returns-in_err-order-clause-halted : goal.returns-in_err-order-clause-halted
returns-in_err-order-clause-halted c =
    let l = c.args.self.now in
    let request : c.in_ok-request.request ≡ l.request = cc (c.in_ok-request.ensures, c.self.view_is) in
    let first = made_first l _ c.args.candidate c.in_ok-request.request c.first-attempt.result c.self.view_is request c.first-attempt.ensures in
    on_err_always c.from_residual-in_err-order.result
    (inr (subst (λ (a : Attempt). c.give.new.table ≡ changed_at (after_want a.send.stage) a.send.server c.args.table.now) first c.in_err-order.ensures.table
    ∙ sym (stepped_begin l c.args.candidate c.args.table.now c.requires.want).1))
