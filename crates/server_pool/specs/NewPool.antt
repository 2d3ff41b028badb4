-- Pools that are made of the configurations of their servers.
use Rattle.std.specs.Prelude.{◌≡◌, ℕ, ◌+◌, ◌%◌, List, [], ◌∷◌, ◌++◌, length, slice_index}
use Rattle.resolver_settings.specs.NameServer.{NameServer}
use Rattle.resolver_settings.specs.declared.options.ServerOrderingStrategy.{ServerOrderingStrategy}
use Rattle.server_core.specs.NewServer.{new_server}
use Rattle.server_core.specs.Servers.{Server}
use Rattle.server_pool.specs.Shared.{Shared}

-- the delay of a place: they are taken in turn, round and round
abbrev pub delay_at : List ℕ → ℕ → ℕ
delay_at delays place = slice_index delays (place % length delays)

-- the servers of configurations, the first of which takes the delay of this place
abbrev pub new_servers : ServerOrderingStrategy → List ℕ → ℕ → List NameServer → List Server
new_servers strategy delays place [] = []
new_servers strategy delays place (config ∷ rest) = new_server [] config strategy (delay_at delays place) ∷ new_servers strategy delays (place + 1) rest

-- the servers of the configurations stand behind the others
abbrev pub with_servers : List ℕ → List NameServer → Shared → Shared
with_servers delays configs old = record old { table = old.table ++ new_servers old.context.options.server_ordering_strategy delays 0 configs }

-- only the servers of some of the first configurations stand behind the others
pub record HasSomeOf (delays : List ℕ) (configs : List NameServer) (old new : Shared) : Type 0 where
  pub first : List NameServer
  pub rest : List NameServer
  pub all : first ++ rest ≡ configs
  pub is : new ≡ with_servers delays first old
