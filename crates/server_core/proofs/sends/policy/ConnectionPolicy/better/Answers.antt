use Rattle.std.proofs.Common.{◌≡◌, ◌∙◌, take, get_or, true, false, ℕ, sym, subst}
use Rattle.server_core.specs.Choice.{Picks}
use Rattle.server_core.specs.Delays.{read_fixed}
use Rattle.server_core.specs.Policy.{allows_connection, is_before, rank}
use Rattle.server_core.specs.declared.name_server.Connection.{Connection}
use Rattle.server_core.proofs.FirstLeast.{IsOrder, by_two, place_within, skipped, begun, won, lost}
use Rattle.server_core.proofs.sends.policy.ConnectionPolicy.better.Goals as goal

-- UDP first, then the lesser delay, is an order
before_is_order : (now : ℕ) → IsOrder (is_before now)
before_is_order now = by_two (λ c. rank c.protocol) (λ c. read_fixed c.delay now)

pub returns-then-not-allows_protocol : goal.returns-then-not-allows_protocol
returns-then-not-allows_protocol c =
    let here = c.index-connections-place in
    skipped (allows_connection c.args.self.now) (is_before c.args.now) c.args.connections.now c.args.place here.result c.args.best c.requires.room
    (subst (λ (x : Connection). allows_connection c.args.self.now x ≡ false) here.is (sym c.allows_protocol.ensures ∙ c.if-not-allows_protocol.true))
    c.requires.best

pub returns-in_default : goal.returns-in_default
returns-in_default c =
    let here = c.index-connections-place in
    begun (allows_connection c.args.self.now) (is_before c.args.now) c.args.connections.now c.args.place here.result (before_is_order c.args.now) c.requires.room
    (subst (λ (x : Connection). allows_connection c.args.self.now x ≡ true) here.is (sym c.allows_protocol.ensures ∙ c.if-not-allows_protocol.false))
    (subst (Picks (allows_connection c.args.self.now) (is_before c.args.now) (take c.args.place c.args.connections.now)) c.in_default.is c.requires.best)

pub bounds-connections-earlier : goal.bounds-connections-earlier
bounds-connections-earlier c =
    place_within (allows_connection c.args.self.now) (is_before c.args.now) c.args.connections.now c.args.place c.in-Some.earlier
    (subst (Picks (allows_connection c.args.self.now) (is_before c.args.now) (take c.args.place c.args.connections.now)) c.in-Some.is c.requires.best)

pub returns-then-is_before : goal.returns-then-is_before
returns-then-is_before c =
    let here = c.index-connections-place in
    let there = c.index-connections-earlier in
    won (allows_connection c.args.self.now) (is_before c.args.now) c.args.connections.now c.args.place c.in-Some.earlier here.result there.result (before_is_order c.args.now) c.requires.room
    (subst (λ (x : Connection). allows_connection c.args.self.now x ≡ true) here.is (sym c.allows_protocol.ensures ∙ c.if-not-allows_protocol.false))
    (subst (λ (x : Connection). is_before c.args.now x (get_or c.args.connections.now c.in-Some.earlier there.result) ≡ true) here.is
    (subst (λ (y : Connection). is_before c.args.now here.result y ≡ true) there.is (sym c.is_before.ensures ∙ c.if-is_before.true)))
    (subst (Picks (allows_connection c.args.self.now) (is_before c.args.now) (take c.args.place c.args.connections.now)) c.in-Some.is c.requires.best)

pub returns-else-is_before : goal.returns-else-is_before
returns-else-is_before c =
    let here = c.index-connections-place in
    let there = c.index-connections-earlier in
    lost (allows_connection c.args.self.now) (is_before c.args.now) c.args.connections.now c.args.place c.in-Some.earlier here.result there.result c.requires.room
    (subst (λ (x : Connection). is_before c.args.now x (get_or c.args.connections.now c.in-Some.earlier there.result) ≡ false) here.is
    (subst (λ (y : Connection). is_before c.args.now here.result y ≡ false) there.is (sym c.is_before.ensures ∙ c.if-is_before.false)))
    (subst (Picks (allows_connection c.args.self.now) (is_before c.args.now) (take c.args.place c.args.connections.now)) c.in-Some.is c.requires.best)
