-- The servers that the lines of a text give.
use Rattle.std.specs.Prelude.{◌≡◌, ℕ, Option, Some, None, List, [], ◌∷◌, map}
use Rattle.std.specs.List.{filter_map}
use Rattle.std.specs.declared.net.ip_addr.IpAddr.{IpAddr}
use Rattle.resolver_settings.specs.AddressText.{IsAddressText, ReadsAddress}
use Rattle.resolver_settings.specs.Directives.{server_word}
use Rattle.resolver_settings.specs.NameServer.{NameServer, believed, over_udp, over_tcp}

-- the addresses that words spell, in their order; a word that spells none gives none
pub data Addresses : List (List ℕ) → List IpAddr → Type 0 where
  done : Addresses [] []
  spelled : {word : List ℕ} {address : IpAddr} {words : List (List ℕ)} {addresses : List IpAddr} → IsAddressText word address → Addresses words addresses → Addresses (word ∷ words) (address ∷ addresses)
  passed : {word : List ℕ} {words : List (List ℕ)} {addresses : List IpAddr} → ((address : IpAddr) → ¬ (IsAddressText word address)) → Addresses words addresses → Addresses (word ∷ words) addresses

-- the words that are to be addresses of servers
abbrev pub server_words : List (List (List ℕ)) → List (List ℕ)
server_words lines = filter_map server_word lines

-- a server at each address
abbrev pub servers_at : List IpAddr → List NameServer
servers_at addresses = map (λ a. believed a (over_udp ∷ over_tcp ∷ [])) addresses

-- the address of a server, where a line has a word for it that spells one
abbrev pub GivesAddress : Option (List ℕ) → Option IpAddr → Type 0
GivesAddress None address = address ≡ None
GivesAddress (Some word) address = ReadsAddress word address
