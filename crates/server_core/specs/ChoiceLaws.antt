-- What the choice of a connection promises whatever the server.
use Rattle.std.specs.Prelude.{◌≡◌, ℕ, List, Option}
use Rattle.dns_core.specs.declared.connection.ConnectionConfig.{ConnectionConfig}
use Rattle.server_core.specs.declared.name_server.Connection.{Connection}
use Rattle.server_core.specs.declared.sends.policy.ConnectionPolicy.{ConnectionPolicy}
use Rattle.server_core.specs.Choice.{Picks}
use Rattle.server_core.specs.Policy.{allows_connection, allows_config, is_before, is_config_before}

-- a policy, a moment and connections leave one choice
abbrev pub ConnectionIsSingle : Type 0
ConnectionIsSingle =
    (policy : ConnectionPolicy) (now : ℕ) (cs : List Connection) (a b : Option ℕ) → Picks (allows_connection policy) (is_before now) cs a → Picks (allows_connection policy) (is_before now) cs b → a ≡ b

-- and a policy and ways to reach a server
abbrev pub ConfigIsSingle : Type 0
ConfigIsSingle =
    (policy : ConnectionPolicy) (cs : List ConnectionConfig) (a b : Option ℕ) → Picks (allows_config policy) is_config_before cs a → Picks (allows_config policy) is_config_before cs b → a ≡ b
