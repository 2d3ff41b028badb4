use Rattle.walk_tables.proofs.Names.{◌≡◌, ℕ, ◌+◌, ◌<◌, ◌≤◌, ◌∙◌, Some, refl, sym, ap, subst, arith, List, AllZip, Shared, lookup_at, OpenLookup, PoolsHold, PendingHolds, IsServerOf, Pools, PendingLookup, begun-holds, has-begun, sent-count, begun-there, begun-fresh, begun-rest, begun-numbered, Context, Server}
use Rattle.server_pool.specs.Sending.{HasSent, HasBegun}
use Rattle.walk_tables.proofs.LookupsAfterStep.{pools-grown}
use Rattle.walk_tables.proofs.PoolsAfterBegin.{pools-numbered, pools-begun}
use Rattle.walk_tables.proofs.LookupOrders.{kept-count}
use Rattle.walk_tables.proofs.pools.Pools.begin.Goals as goal

-- Servers that were met stay where memory runs out.
pub returns-in_err-servers : goal.returns-in_err-servers
returns-in_err-servers c = record {
  holds = λ view here served h.
      pools-grown view c.args.self.now c.servers_for.new.self c.servers_for.ensures.grown (c.servers_for.ensures.servers view.policy h.servers) h;
  given = c.servers_for.ensures.grown.given;
}

pub returns-in_err-pool : goal.returns-in_err-pool
returns-in_err-pool c = record {
  holds = λ view here served h.
      let met = pools-grown view c.args.self.now c.servers_for.new.self c.servers_for.ensures.grown (c.servers_for.ensures.servers view.policy h.servers) h in
      subst (λ shared. PoolsHold view (record c.servers_for.new.self { shared = shared })) (sym c.in_err-pool.ensures.err) met;
  given = ap (λ (shared : Shared). shared.given) c.in_err-pool.ensures.err ∙ c.servers_for.ensures.grown.given;
}

pub returns-in_err-lookup : goal.returns-in_err-lookup
returns-in_err-lookup c = record {
  holds = λ view here served h.
      let first = c.servers_for.new.self in
      let met = pools-grown view c.args.self.now first c.servers_for.ensures.grown (c.servers_for.ensures.servers view.policy h.servers) h in
      subst (λ shared. PoolsHold view (record first { shared = shared })) (sym c.in_err-lookup.ensures.err)
      (pools-numbered view first c.from_nameservers.new.shared (first.shared.pools + 1) (omega arith) c.in_ok-pool.ensures.ok met);
  given = ap (λ (shared : Shared). shared.given) (c.in_err-lookup.ensures.err ∙ c.in_ok-pool.ensures.ok) ∙ c.servers_for.ensures.grown.given;
}

pub returns : goal.returns
returns c = record {
  holds = λ view here served h.
      let now = view.moment in
      let n = c.in_ok-lookup.lookup.number in
      let request = c.args.request in
      let first = c.servers_for.new.self in
      let met = pools-grown view c.args.self.now first c.servers_for.ensures.grown (c.servers_for.ensures.servers view.policy h.servers) h in
      let old : Pools = record first { shared = c.from_nameservers.new.shared } in
      let shared = c.into_lookup.new.shared in
      let one_more = c.in_ok-pool.ensures.ok in
      let numbered : PoolsHold view old = pools-numbered view first old.shared (first.shared.pools + 1) (omega arith) one_more met in
      let numbers = c.in_ok-servers.servers.items in
      let there : AllZip (IsServerOf old.shared.table) c.args.ips.now numbers =
      subst (λ (table : List Server). AllZip (IsServerOf table) c.args.ips.now numbers) (sym (ap (λ (x : Shared). x.table) one_more)) (c.in_ok-servers.ensures.met view.policy h.servers) in
      let pool = c.in_ok-pool.pool.number in
      let own : pool ≡ first.shared.pools + 1 = c.in_ok-pool.ensures.pool.number in
      let count : old.shared.pools ≡ first.shared.pools + 1 = ap (λ (shared : Shared). shared.pools) one_more in
      let later : (m : ℕ) (l : OpenLookup) → lookup_at old.shared m ≡ Some l → l.pool < pool =
      λ m l at. (let low = (met.numbered.each m l (sym (ap (λ (shared : Shared). lookup_at shared m) one_more) ∙ at)).pool in omega (arith, low, own)) in
      let sent : HasSent pool numbers request now old.shared shared n = rw (c.in_ok-pool.ensures.pool.servers, here) at c.in_ok-lookup.ensures.sent in
      let begun : HasBegun pool numbers request now old.shared shared n = has-begun pool numbers request now old.shared shared n later sent in
      let within : pool ≤ old.shared.pools = omega (arith, own, count) in
      let sought : PendingLookup = c.in_ok-sought.sought in
      let holds : PendingHolds view shared n sought =
      rw (c.in_ok-sought.ensures, here)
      (begun-holds view c.args.zone.now c.args.ips.now numbers request old.shared shared pool n served (ap (λ (x : Context). x.options.timeout) numbered.servers.context) numbered.servers.lasts there begun _
      (begun-there pool numbers request now old.shared shared n begun) refl (begun-rest pool numbers request now old.shared shared n begun).servers.configs) in
      pools-begun view n sought old c.keep.new.self shared (begun-rest pool numbers request now old.shared shared n begun)
      (begun-numbered pool numbers request now old.shared shared n begun within numbered.numbered) numbered c.keep.result c.in_ok-lookup.lookup
      (begun-fresh pool numbers request now old.shared shared n begun numbered.numbered) holds c.keep.ensures.ok c.keep.ensures.err;
  given =
      kept-count c.in_ok-lookup.lookup _ (record c.servers_for.new.self { shared = c.into_lookup.new.shared }) c.keep.new.self c.keep.result c.keep.ensures.ok c.keep.ensures.err
      ∙ sent-count _ _ _ _ c.from_nameservers.new.shared c.into_lookup.new.shared c.in_ok-lookup.lookup.number c.in_ok-lookup.ensures.sent
      ∙ ap (λ (shared : Shared). shared.given) c.in_ok-pool.ensures.ok ∙ c.servers_for.ensures.grown.given;
}
