use Rattle.std.proofs.Common.{◌∙◌, ℕ, arith, ap, sym, subst}
use Rattle.server_core.specs.Context.{Context}
use Rattle.server_pool.specs.declared.open_lookups.open_lookup.OpenLookup.{OpenLookup}
use Rattle.server_pool.specs.Orders.{IsOpenOrder, open_at}
use Rattle.server_pool.specs.Shared.{Shared}
use Rattle.server_pool.specs.Stepping.{HasPut}
use Rattle.server_pool.specs.contracts.pool_shared.PoolShared.{the_view}
use Rattle.server_pool.proofs.NextStepLeaves.{same_length}
use Rattle.server_pool.proofs.OutcomeLeaves.{IsPut, put_puts, put_stays, put_configs, put_nowhere}
use Rattle.server_pool.proofs.pool_shared.PoolShared.put.Goals as goal

-- what is shared afterwards
abbrev after : goal.After-drop_closed → Shared
after c = record {
  table = c.put_at-after.new.table;
  context = c.put_at-after.new.cx;
  pools = c.self.inside.pools;
  lookups = c.put_at-after.new.lookups.entries;
  orders = c.drop_closed.new.orders.entries;
  turns = c.self.inside.turns.entries;
  sent = c.self.inside.sent;
  given = c.self.inside.given;
}

called : (c : goal.After-drop_closed) → IsPut c.args.number c.in-Some.lookup c.args.outcome c.args.tick (the_view c.self.inside) c.put_at-after.result (after c)
called c =
    let old = the_view c.self.inside in
    record {
      at = ap (open_at c.args.number) c.self.view_is ∙ sym c.in-Some.ensures;
      did = λ l there. c.put_at-after.ensures.did l there;
      lookups = λ l there. c.put_at-after.ensures.lookups l there;
      table = λ l there. c.put_at-after.ensures.table l there;
      orders = c.drop_closed.ensures.entries;
      gone = c.drop_closed.ensures.gone;
      rest = ap (λ (cx : Context). record (after c) { context = cx }) c.put_at-after.ensures.context;
      holds = c.self.invariant.1;
    }

pub invariant_of-self : goal.invariant_of-self
invariant_of-self c =
    let old = the_view c.self.inside in (
      omega (arith, same_length old.table (after c).table (put_configs c.args.number c.in-Some.lookup c.args.outcome c.args.tick old (after c) c.put_at-after.result (called c)), c.self.invariant.0),
      rw c.put_at-after.ensures.context (put_stays c.args.number c.in-Some.lookup c.args.outcome c.args.tick old (after c) c.put_at-after.result (called c)),
    )

pub returns-in-Some-clause-puts : goal.returns-in-Some-clause-puts
returns-in-Some-clause-puts c =
    subst (λ (s : Shared). (n : ℕ) (l : OpenLookup) → IsOpenOrder c.args.number n l s → HasPut c.args.number n l c.args.outcome c.args.tick s c.put_at-after.result (after c)) c.self.view_is
    (λ n l at. put_puts c.args.number c.in-Some.lookup c.args.outcome c.args.tick (the_view c.self.inside) (after c) c.put_at-after.result (called c) n l at)

pub returns-in-None-clause-puts : goal.returns-in-None-clause-puts
returns-in-None-clause-puts c = λ n l at. put_nowhere c.args.number n l c.args.self.now c.in-None.ensures at
