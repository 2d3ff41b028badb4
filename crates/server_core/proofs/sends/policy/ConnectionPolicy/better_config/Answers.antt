use Rattle.std.proofs.Common.{◌≡◌, ◌∙◌, take, get_or, true, false, sym, subst}
use Rattle.dns_core.specs.Connection.{protocol_of}
use Rattle.dns_core.specs.declared.connection.ConnectionConfig.{ConnectionConfig}
use Rattle.server_core.specs.Choice.{Picks}
use Rattle.server_core.specs.Policy.{allows_config, is_config_before, rank}
use Rattle.server_core.proofs.FirstLeast.{IsOrder, by_one, place_within, skipped, begun, won, lost}
use Rattle.server_core.proofs.sends.policy.ConnectionPolicy.better_config.Goals as goal

-- UDP first is an order
before_is_order : IsOrder is_config_before
before_is_order = by_one (λ c. rank (protocol_of c.protocol))

pub returns-then-not-allows_config : goal.returns-then-not-allows_config
returns-then-not-allows_config c =
    skipped (allows_config c.args.self.now) is_config_before c.args.configs.now c.args.place c.index-configs-place.result c.args.best c.requires.room
    (subst (λ (x : ConnectionConfig). allows_config c.args.self.now x ≡ false) c.index-configs-place.is (sym c.allows_config.ensures ∙ c.if-not-allows_config.true))
    c.requires.best

pub returns-in_default : goal.returns-in_default
returns-in_default c =
    begun (allows_config c.args.self.now) is_config_before c.args.configs.now c.args.place c.index-configs-place.result before_is_order c.requires.room
    (subst (λ (x : ConnectionConfig). allows_config c.args.self.now x ≡ true) c.index-configs-place.is (sym c.allows_config.ensures ∙ c.if-not-allows_config.false))
    (subst (Picks (allows_config c.args.self.now) is_config_before (take c.args.place c.args.configs.now)) c.in_default.is c.requires.best)

pub bounds-configs-earlier : goal.bounds-configs-earlier
bounds-configs-earlier c =
    place_within (allows_config c.args.self.now) is_config_before c.args.configs.now c.args.place c.in-Some.earlier
    (subst (Picks (allows_config c.args.self.now) is_config_before (take c.args.place c.args.configs.now)) c.in-Some.is c.requires.best)

pub returns-then-is_config_before : goal.returns-then-is_config_before
returns-then-is_config_before c =
    let here = c.index-configs-place in
    let there = c.index-configs-earlier in
    won (allows_config c.args.self.now) is_config_before c.args.configs.now c.args.place c.in-Some.earlier here.result there.result before_is_order c.requires.room
    (subst (λ (x : ConnectionConfig). allows_config c.args.self.now x ≡ true) here.is (sym c.allows_config.ensures ∙ c.if-not-allows_config.false))
    (subst (λ (x : ConnectionConfig). is_config_before x (get_or c.args.configs.now c.in-Some.earlier there.result) ≡ true) here.is
    (subst (λ (y : ConnectionConfig). is_config_before here.result y ≡ true) there.is (sym c.is_config_before.ensures ∙ c.if-is_config_before.true)))
    (subst (Picks (allows_config c.args.self.now) is_config_before (take c.args.place c.args.configs.now)) c.in-Some.is c.requires.best)

pub returns-else-is_config_before : goal.returns-else-is_config_before
returns-else-is_config_before c =
    let here = c.index-configs-place in
    let there = c.index-configs-earlier in
    lost (allows_config c.args.self.now) is_config_before c.args.configs.now c.args.place c.in-Some.earlier here.result there.result c.requires.room
    (subst (λ (x : ConnectionConfig). is_config_before x (get_or c.args.configs.now c.in-Some.earlier there.result) ≡ false) here.is
    (subst (λ (y : ConnectionConfig). is_config_before here.result y ≡ false) there.is (sym c.is_config_before.ensures ∙ c.if-is_config_before.false)))
    (subst (Picks (allows_config c.args.self.now) is_config_before (take c.args.place c.args.configs.now)) c.in-Some.is c.requires.best)
