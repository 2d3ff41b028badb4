-- What the pools of a resolver share.
use Rattle.std.specs.Prelude.{◌≡◌, ◌≢◌, ℕ, Bool, List, Option, Some, unwrap_or}
use Rattle.std.specs.declared.net.ip_addr.IpAddr.{IpAddr}
use Rattle.server_core.specs.Context.{Context}
use Rattle.server_core.specs.Servers.{Server}
use Rattle.pool_rules.specs.AnswerFilter.{denied_by}
pub use Rattle.pool_lookup.specs.Tables.{configs}
use Rattle.server_pool.specs.OpenLookups.{under}
use Rattle.server_pool.specs.declared.open_lookups.open_lookup.OpenLookup.{OpenLookup}

-- the servers, each with its place as its number; the settings of all pools; how many pools were numbered so far; the lookups that are under way, by their numbers; the lookup of each order that was given
-- and has not ended, by its number; whose turn it is in each pool that takes turns; and how many requests were sent and how many orders were given so far
pub record Shared : Type 0 where
  pub table : List Server
  pub context : Context
  pub pools : ℕ
  pub lookups : List (ℕ × OpenLookup)
  pub orders : List (ℕ × ℕ)
  pub turns : List (ℕ × ℕ)
  pub sent : ℕ
  pub given : ℕ

-- the lookup of a number
abbrev pub lookup_at : Shared → ℕ → Option OpenLookup
lookup_at shared n = under n shared.lookups

-- the lookup of an order that was given and has not ended
abbrev pub lookup_of : Shared → ℕ → Option ℕ
lookup_of shared number = under number shared.orders

-- whose turn it is in a pool: at first it is the first server's
abbrev pub turn_at : Shared → ℕ → ℕ
turn_at shared pool = unwrap_or (under pool shared.turns) 0

-- which addresses are taken out of answers
abbrev pub denied_in : Shared → (IpAddr → Bool)
denied_in shared = denied_by shared.context.answer_address_filter

-- The settings are the same, and so are the servers, but for their connections and delays.
pub record SameServers (old new : Shared) : Type 0 where
  pub context : new.context ≡ old.context
  pub configs : configs new.table ≡ configs old.table

-- Only the lookup of the number, and orders of it, are other than before.
pub record SameBut (n : ℕ) (old new : Shared) : Type 0 where
  pub servers : SameServers old new
  pub lookups : (m : ℕ) → m ≢ n → lookup_at new m ≡ lookup_at old m
  pub orders : (number m : ℕ) → m ≢ n → lookup_of old number ≡ Some m → lookup_of new number ≡ Some m
