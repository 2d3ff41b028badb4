use Rattle.walk_tables.proofs.Names.{take, AllZip, IsGrown, ServersHold, IsServerOf, Policy}
use Rattle.walk_tables.proofs.pools.Pools.servers_for.Given as goal

-- those before are met, and only servers came
abbrev pub invariant-loop-ip : goal.invariant-loop-ip
invariant-loop-ip l = record {
  grown : IsGrown l.fn.self l.self;
  servers : (policy : Policy) → ServersHold policy l.fn.self → ServersHold policy l.self;
  met : (policy : Policy) → ServersHold policy l.fn.self → AllZip (IsServerOf l.self.shared.table) (take l.ip-index l.ips) l.servers.items;
}
