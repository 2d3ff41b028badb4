-- Which addresses a set of networks denies.
use Rattle.std.specs.Prelude.{ℕ, Bool, ◌&&◌, not, List}
use Rattle.std.specs.List.{list_any}
use Rattle.std.specs.declared.net.ip_addr.IpAddr.{IpAddr}
use Rattle.resolver_settings.specs.Net.{Network, contains}

-- a name, as its bytes, and the networks of both kinds in the order in which they were given
pub record Access : Type 0 where
  pub name : List ℕ
  pub allow : List Network
  pub deny : List Network

abbrev pub is_in_any : List Network → IpAddr → Bool
is_in_any nets ip = list_any (λ net. contains net ip) nets

-- in a denied network, and in no allowed one
abbrev pub denies : Access → IpAddr → Bool
denies a ip = is_in_any a.deny ip && not (is_in_any a.allow ip)
