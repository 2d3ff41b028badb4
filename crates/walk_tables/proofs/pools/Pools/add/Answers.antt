use Rattle.walk_tables.proofs.Names.{◌∙◌, ◌+◌, ◌++◌, ◌∷◌, [], ℕ, List, Some, cond, length, ap, lookup, IpAddr, Server, Shared, config_at, config-before, met-last, delayed-last}
use Rattle.std.specs.BTreeMap.{BTreeMap}
use Rattle.walk_tables.proofs.LookupsAfterStep.{servers-by, servers-same}
use Rattle.walk_tables.proofs.ServersAddedBehind.{servers-added}
use Rattle.std.specs.BTreeMap as tree
use Rattle.std.specs.contracts.net.ip_addr.IpAddrOrd.TheImpl as address
use Rattle.walk_tables.proofs.pools.Pools.add.Goals as goal

pub returns-in_err-server-clause-servers : goal.returns-in_err-server-clause-servers
returns-in_err-server-clause-servers c policy h =
    let same = c.take_first_delay-delay.ensures.same in
    servers-same policy c.args.self.now c.take_first_delay-delay.new.self (record { shared = same.0; numbers = same.1; delays = c.take_first_delay-delay.ensures.delays }) h

pub returns-in_err-number-clause-servers : goal.returns-in_err-number-clause-servers
returns-in_err-number-clause-servers c policy h =
    let same = c.take_first_delay-delay.ensures.same in
    servers-same policy c.args.self.now _ (record { shared = c.in_err-number.ensures.err ∙ same.0; numbers = same.1; delays = c.take_first_delay-delay.ensures.delays }) h

pub returns-in_err-_before-clause-servers : goal.returns-in_err-_before-clause-servers
returns-in_err-_before-clause-servers c policy h =
    let same = c.take_first_delay-delay.ensures.same in
    let core = c.args.self.now in
    let shared = c.in_ok-number.ensures.ok ∙ ap (λ (s : Shared). let new : Shared = record s { table = s.table ++ c.in_ok-server.server ∷ [] } in new) same.0 in
    servers-by policy core _
    (λ ip. ap (λ (es : List (IpAddr × ℕ)). lookup (tree.is_at (address.ghosts.cmp ip)) es) c.in_err-_before.ensures.err ∙ ap (λ (ns : BTreeMap IpAddr ℕ). tree.get address.ghosts.cmp ns ip) same.1)
    (ap (λ (s : Shared). s.context) shared) c.take_first_delay-delay.ensures.delays
    (λ k config is. ap (λ (s : Shared). config_at s.table k) shared ∙ config-before core.shared.table (c.in_ok-server.server ∷ []) k config is) h

pub returns-clause-servers : goal.returns-clause-servers
returns-clause-servers c policy h =
    let same = c.take_first_delay-delay.ensures.same in
    let core = c.args.self.now in
    let server = c.in_ok-server.server in
    let shared = c.in_ok-number.ensures.ok ∙ ap (λ (s : Shared). let new : Shared = record s { table = s.table ++ server ∷ [] } in new) same.0 in
    servers-added policy c.args.ip server c.in_ok-number.number core _
    (record {
      table = ap (λ (s : Shared). s.table) shared;
      context = ap (λ (s : Shared). s.context) shared;
      delays = c.take_first_delay-delay.ensures.delays;
      number = c.in_ok-number.ensures.number ∙ ap (λ (s : Shared). length s.table + 1) same.0;
      config = ap (λ (s : Server). s.config) c.in_ok-server.ensures ∙ c.in_ok-config.ensures;
      numbers = λ q. c.in_ok-_before.ensures.updates.0 q ∙ ap (λ (ns : BTreeMap IpAddr ℕ). cond (tree.is_at (address.ghosts.cmp c.args.ip) q) (Some c.in_ok-number.number) (tree.get address.ghosts.cmp ns q)) same.1;
    }) h

pub returns-clause-met : goal.returns-clause-met
returns-clause-met c =
    let same = c.take_first_delay-delay.ensures.same in
    let core = c.args.self.now in
    let server = c.in_ok-server.server in
    let shared = c.in_ok-number.ensures.ok ∙ ap (λ (s : Shared). let new : Shared = record s { table = s.table ++ server ∷ [] } in new) same.0 in
    let table = ap (λ (s : Shared). s.table) shared in
    let number = c.in_ok-number.ensures.number ∙ ap (λ (s : Shared). length s.table + 1) same.0 in
    let config = ap (λ (s : Server). s.config) c.in_ok-server.ensures ∙ c.in_ok-config.ensures in
    met-last core.shared.table c.add.new.self.table server c.args.ip c.in_ok-number.number table number config

pub returns-clause-delay : goal.returns-clause-delay
returns-clause-delay c =
    let same = c.take_first_delay-delay.ensures.same in
    let core = c.args.self.now in
    let server = c.in_ok-server.server in
    let shared = c.in_ok-number.ensures.ok ∙ ap (λ (s : Shared). let new : Shared = record s { table = s.table ++ server ∷ [] } in new) same.0 in
    let table = ap (λ (s : Shared). s.table) shared in
    let number = c.in_ok-number.ensures.number ∙ ap (λ (s : Shared). length s.table + 1) same.0 in
    let first = ap (λ (s : Server). s.first_delay) c.in_ok-server.ensures ∙ c.take_first_delay-delay.ensures.delay in
    delayed-last core.shared.table c.add.new.self.table server c.in_ok-number.number _ table number first
