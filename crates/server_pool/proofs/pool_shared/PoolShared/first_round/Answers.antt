use Rattle.std.proofs.Common.{◌≡◌, ◌∙◌, ℕ, List, ap, subst, IfOk}
use Rattle.resolver_settings.specs.declared.options.ResolverOpts.{ResolverOpts}
use Rattle.pool_rules.specs.Ordering.{IsOrdered, concurrency_of}
use Rattle.pool_lookup.specs.Rounds.{begun}
use Rattle.server_pool.specs.UsableServers.{usable_servers}
use Rattle.server_pool.specs.Sending.{Begins}
use Rattle.server_pool.specs.Shared.{Shared}
use Rattle.server_pool.proofs.ServersAreReached.{begins_so}
use Rattle.server_pool.proofs.pool_shared.PoolShared.first_round.Goals as goal

pub returns-clause-begins : goal.returns-clause-begins
returns-clause-begins c =
    let i = c.self.inside in
    let now = c.args.tick.now in
    let turn = c.args.turn.now in
    let given = c.args.servers.now in
    let asked = c.ordered.new.servers.items in
    let found = c.in_ok-found.found.items in
    let concurrency = c.concurrency_of-concurrency.result in
    let order : IsOrdered i.context.options i.table now turn given asked =
    subst (λ (o : ResolverOpts). IsOrdered o i.table now turn given asked) c.options-options.ensures
    (subst (λ (g : List ℕ). IsOrdered c.options-options.result.now i.table now turn g asked) c.in_ok-servers.ensures.items c.in_ok-ordered.ensures.order) in
    let those : found ≡ usable_servers i.table asked = c.in_ok-found.ensures in
    let many : concurrency ≡ concurrency_of i.context.options = c.concurrency_of-concurrency.ensures ∙ ap concurrency_of c.options-options.ensures in
    let is : IfOk c.begin.result (λ l. l ≡ begun c.args.request found concurrency i.context.options.timeout now) =
    subst (λ (o : ResolverOpts). IfOk c.begin.result (λ l. l ≡ begun c.args.request found concurrency o.timeout now)) c.options-options.ensures c.begin.ensures.begun in
    subst (λ (s : Shared). IfOk c.begin.result (Begins s.context.options s.table given turn c.args.request now)) c.self.view_is
    (begins_so c.begin.result i.context.options i.table given turn c.args.request now asked found concurrency order those many is)
