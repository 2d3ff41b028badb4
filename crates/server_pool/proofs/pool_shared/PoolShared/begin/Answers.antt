use Rattle.std.proofs.Common.{arith, sym, subst}
use Rattle.pool_rules.specs.AnswerFilter.{denied_by}
use Rattle.server_pool.specs.declared.open_lookups.open_lookup.OpenLookup.{OpenLookup}
use Rattle.server_pool.specs.Sending.{Begins}
use Rattle.server_pool.specs.Shared.{Shared}
use Rattle.server_pool.proofs.PoolsHoldOn.{begun_holds}
use Rattle.server_pool.proofs.ServersAreReached.{begun_lookup, begun_idle}
use Rattle.server_pool.proofs.pool_shared.PoolShared.begin.Goals as goal

pub add_begun-requires-clause-fresh : goal.add_begun-requires-clause-fresh
add_begun-requires-clause-fresh c = c.self.invariant.1.numbered c.in_ok-number.number (omega (arith, c.in_ok-number.ensures))

pub invariant_of-self-2 : goal.invariant_of-self-2
invariant_of-self-2 c =
    let i = c.self.inside in
    let denied = denied_by i.context.answer_address_filter in
    let open_lookup : OpenLookup = record { pool = c.args.pool; waiters = 1; lookup = c.in_ok-lookup.lookup } in
    let b : Begins i.context.options i.table c.args.servers.now c.turn_of-before.result c.args.request c.args.tick.now c.in_ok-lookup.lookup =
    subst (λ (s : Shared). Begins s.context.options s.table c.args.servers.now c.turn_of-before.result c.args.request c.args.tick.now c.in_ok-lookup.lookup) (sym c.self.view_is) c.in_ok-lookup.ensures.begins in (
      c.self.invariant.0,
      rw (c.in_ok-add_begun.ensures.ok, c.in_ok-number.ensures)
          (begun_holds denied i.table open_lookup i.lookups.entries i.orders.entries i.sent i.given
          (begun_lookup denied i.context.options i.table c.args.servers.now c.turn_of-before.result c.args.request c.args.tick.now c.args.pool i.sent c.in_ok-lookup.lookup b (c.in_ok-lookup.ensures.holds denied))
          (begun_idle i.context.options i.table c.args.servers.now c.turn_of-before.result c.args.request c.args.tick.now c.in_ok-lookup.lookup b) c.self.invariant.1),
    )
