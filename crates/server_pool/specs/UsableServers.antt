-- The servers of a pool that can be asked, as a lookup sees them.
use Rattle.std.specs.Prelude.{ℕ, Bool, true, false, List, map, filter, Some, None}
use Rattle.server_core.specs.Servers.{Server, server_of}
use Rattle.server_core.specs.Policy.{allows_server}
use Rattle.server_core.specs.declared.sends.policy.ConnectionPolicy.{ConnectionPolicy}
use Rattle.pool_rules.specs.declared.pool_server.PoolServer.{PoolServer}

-- the policy allows one of the ways to reach the server of the number
abbrev pub is_reached : ConnectionPolicy → List Server → ℕ → Bool
is_reached policy table n = elim (server_of table n) [ None ↦ false | Some server ↦ allows_server policy server ]

-- its negatives are believed
abbrev pub is_trusted : List Server → ℕ → Bool
is_trusted table n = elim (server_of table n) [ None ↦ false | Some server ↦ server.config.trust_negative_responses ]

abbrev pub candidate_of : List Server → ℕ → PoolServer
candidate_of table n = record { server = n; beyond_udp = is_reached (record { disable_udp = true }) table n; trusted = is_trusted table n }

-- those that can be reached at all, in their order
abbrev pub usable_servers : List Server → List ℕ → List PoolServer
usable_servers table servers = map (candidate_of table) (filter (is_reached (record { disable_udp = false }) table) servers)
