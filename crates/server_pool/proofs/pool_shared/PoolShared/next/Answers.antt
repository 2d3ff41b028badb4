use Rattle.std.proofs.Common.{◌≡◌, ◌∙◌, ℕ, ◌+◌, Some, None, Err, IfOk, OnErr, arith, ap, sym, subst}
use Rattle.std.specs.Prelude.{◌⊎◌}
use Rattle.dns_core.specs.declared.net_error.NetError.TheVariants.{NoConnections}
use Rattle.server_core.specs.Context.{Context}
use Rattle.pool_rules.specs.AnswerFilter.{denied_by}
use Rattle.server_pool.specs.LookupSteps.{IsStepAt}
use Rattle.server_pool.specs.LookupOrders.{given_by}
use Rattle.server_pool.specs.declared.open_lookups.open_lookup.OpenLookup.{OpenLookup}
use Rattle.server_pool.specs.Promises.{IfDone}
use Rattle.server_pool.specs.Shared.{Shared, lookup_at, denied_in}
use Rattle.server_pool.specs.Stepping.{told_by, with_rest, HasStepped, HasHalted}
use Rattle.server_pool.specs.contracts.pool_shared.PoolShared.{the_view}
use Rattle.server_pool.specs.declared.pool_shared.PoolStep.TheVariants as gives
use Rattle.server_pool.proofs.NextStepLeaves.{IsNext, kept_orders, same_length, next_configs, next_holds, next_steps, next_halts, next_gone, next_fair, next_answer, next_waits}
use Rattle.server_pool.proofs.LookupsPromised.{fairly}
use Rattle.server_pool.proofs.pool_shared.PoolShared.next.Goals as goal

-- what is shared afterwards
abbrev after : goal.After-numbered → Shared
after c = record {
  table = c.step_at-made.new.table;
  context = c.step_at-made.new.cx;
  pools = c.self.inside.pools;
  lookups = c.step_at-made.new.lookups.entries;
  orders = c.keep_order.new.orders.entries;
  turns = c.self.inside.turns.entries;
  sent = c.self.inside.sent;
  given = c.keep_order.new.given;
}

called : (c : goal.After-numbered) → IsNext c.args.lookup c.args.tick.now (the_view c.self.inside) c.step_at-made.result (after c)
called c =
    let old = the_view c.self.inside in
    let r = c.step_at-made.result in
    let is : c.in_ok-number.number ≡ old.given + 1 = c.in_ok-number.ensures in
    record {
      ok = λ l there. subst (λ (k : ℕ). IfOk r (λ made. IsStepAt c.args.lookup k c.args.tick.now l old.lookups old.table made (after c).lookups (after c).table)) is (c.step_at-made.ensures.ok l there);
      err = λ l there. c.step_at-made.ensures.err l there;
      gone = λ none. c.step_at-made.ensures.gone none;
      orders =
          kept_orders r c.in_ok-number.number old.given c.args.lookup old.orders c.insert.new.self.entries (after c).orders is c.in_ok-_room.ensures.entries (c.self.invariant.1.ordered (old.given + 1) (omega arith))
          c.keep_order.ensures.orders;
      given = c.keep_order.ensures.given ∙ ap (λ (k : ℕ). given_by r k old.given) is;
      rest = ap (λ (cx : Context). record (with_rest old (after c)) { context = cx }) c.step_at-made.ensures.context;
      holds = c.self.invariant.1;
    }

told : (c : goal.After-numbered) → c.numbered.result ≡ told_by (c.self.inside.given + 1) c.step_at-made.result
told c = c.numbered.ensures ∙ ap (λ (k : ℕ). told_by k c.step_at-made.result) c.in_ok-number.ensures

pub returns-in_err-number-clause-fair : goal.returns-in_err-number-clause-fair
returns-in_err-number-clause-fair c = λ l there.
    let here = subst (λ (s : Shared). lookup_at s c.args.lookup ≡ Some l) (sym c.self.view_is) there in
    fairly (denied_by c.self.inside.context.answer_address_filter) l.lookup (c.self.invariant.1.each c.args.lookup l here).rules

pub returns-in_err-_room-clause-fair : goal.returns-in_err-_room-clause-fair
returns-in_err-_room-clause-fair c = λ l there. fairly (denied_by c.self.inside.context.answer_address_filter) l.lookup (c.self.invariant.1.each c.args.lookup l there).rules

pub invariant_of-self-2 : goal.invariant_of-self-2
invariant_of-self-2 c =
    let old = the_view c.self.inside in
    let r = c.step_at-made.result in (
      omega (arith, same_length old.table (after c).table (next_configs c.args.lookup c.args.tick.now old (after c) r (called c)), c.self.invariant.0),
      rw c.step_at-made.ensures.context (next_holds c.args.lookup c.args.tick.now old (after c) r (called c)),
    )

pub returns-clause-steps : goal.returns-clause-steps
returns-clause-steps c =
    let n = c.args.lookup in
    subst (λ (s : Shared). (l : OpenLookup) → lookup_at s n ≡ Some l → IfOk c.numbered.result (λ t. HasStepped n c.args.tick.now l s t (after c))) c.self.view_is
    (λ l there. rw (told c) (next_steps n c.args.tick.now (the_view c.self.inside) (after c) c.step_at-made.result (called c) l there))

pub returns-clause-halts : goal.returns-clause-halts
returns-clause-halts c =
    let n = c.args.lookup in
    subst (λ (s : Shared). (l : OpenLookup) → lookup_at s n ≡ Some l → OnErr c.numbered.result ((after c ≡ s) ⊎ HasHalted n c.args.tick.now l s (after c))) c.self.view_is
    (λ l there. rw (told c) (next_halts n c.args.tick.now (the_view c.self.inside) (after c) c.step_at-made.result (called c) l there))

pub returns-clause-gone : goal.returns-clause-gone
returns-clause-gone c =
    let n = c.args.lookup in
    subst (λ (s : Shared). lookup_at s n ≡ None → IfOk c.numbered.result (λ t. t ≡ gives.Done (Err NoConnections)) × (after c ≡ s)) c.self.view_is
    (λ none. rw (told c) (next_gone n c.args.tick.now (the_view c.self.inside) (after c) c.step_at-made.result (called c) none))

pub returns-clause-fair : goal.returns-clause-fair
returns-clause-fair c = λ l there. next_fair c.args.lookup c.args.tick.now (the_view c.self.inside) (after c) c.step_at-made.result (called c) l there

pub returns-clause-answer : goal.returns-clause-answer
returns-clause-answer c =
    let n = c.args.lookup in
    subst (λ (s : Shared). (l : OpenLookup) → lookup_at (after c) n ≡ Some l → IfOk c.numbered.result (IfDone (denied_in s) l.lookup)) c.self.view_is
    (λ l there. rw (told c) (next_answer n c.args.tick.now (the_view c.self.inside) (after c) c.step_at-made.result (called c) l there))

pub returns-clause-waits : goal.returns-clause-waits
returns-clause-waits c = rw (told c) (next_waits c.args.lookup c.args.tick.now (the_view c.self.inside) (after c) c.step_at-made.result (called c))
