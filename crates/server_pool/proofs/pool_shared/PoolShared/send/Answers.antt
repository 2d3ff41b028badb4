use Rattle.std.proofs.Common.{◌≡◌, true, Some, None, subst}
use Rattle.server_pool.specs.OpenLookups.{is_for, open_for, under}
use Rattle.server_pool.specs.declared.open_lookups.open_lookup.OpenLookup.{OpenLookup}
use Rattle.server_pool.specs.Shared.{Shared}
use Rattle.server_pool.proofs.Sendings.{sent_joined, sent_begun}
use Rattle.server_pool.proofs.pool_shared.PoolShared.send.Goals as goal

pub returns-in-Some-clause-ok : goal.returns-in-Some-clause-ok
returns-in-Some-clause-ok c =
    let found = c.in-Some.ensures in
    sent_joined c.args.pool c.args.servers.now c.args.request c.args.tick.now c.args.self.now c.join.new.self c.join.result c.in-Some.lookup
    (subst (λ (s : Shared). Some c.in-Some.lookup ≡ open_for c.args.pool c.args.request s.lookups) c.self.view_is found.first)
    (subst (λ (s : Shared). (l : OpenLookup) × (under c.in-Some.lookup s.lookups ≡ Some l) × (is_for c.args.pool c.args.request l ≡ true)) c.self.view_is found.there)
    c.join.ensures.number c.join.ensures.ok

pub returns-in-None-clause-ok : goal.returns-in-None-clause-ok
returns-in-None-clause-ok c =
    let found = c.in-None.ensures in
    sent_begun c.args.pool c.args.servers.now c.args.request c.args.tick.now c.args.self.now c.begin.new.self c.begin.result
    (subst (λ (s : Shared). None ≡ open_for c.args.pool c.args.request s.lookups) c.self.view_is found.first) c.begin.ensures.ok
