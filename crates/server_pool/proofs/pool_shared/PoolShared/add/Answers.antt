use Rattle.std.proofs.Common.{◌∷◌, [], List, length, ap, sym, subst, arith, length-append}
use Rattle.pool_rules.specs.AnswerFilter.{denied_by}
use Rattle.server_core.specs.Servers.{Server}
use Rattle.server_pool.specs.Holds.{SharedHolds}
use Rattle.server_pool.specs.Shared.{Shared}
use Rattle.server_pool.proofs.ServersAreReached.{added_holds}
use Rattle.server_pool.proofs.pool_shared.PoolShared.add.Goals as goal

pub invariant_of-self-2 : goal.invariant_of-self-2
invariant_of-self-2 c =
    let old = c.self.inside in
    let denied = denied_by old.context.answer_address_filter in
    let is = c.in_ok-number.ensures.ok in
    let longer = ap length is in
    let more = length-append old.table (c.args.server ∷ []) in
    let seen = ap (λ (s : Shared). length s.table) c.self.view_is in (
      omega (arith, longer, more, seen, c.live_servers.ensures, c.if-live_servers.false, c.self.invariant.0),
      subst (λ (t : List Server). SharedHolds denied t old.lookups.entries old.orders.entries old.sent old.given) (sym is)
          (added_holds denied old.table (c.args.server ∷ []) old.lookups.entries old.orders.entries old.sent old.given c.self.invariant.1),
    )
