-- Addresses as text: the four decimal numbers of IPv4, and the groups of IPv6 (RFC 4291 section 2.2,
-- forms 1 and 2), which are printed as RFC 5952 section 4 says. The form with dots is never used.
use Rattle.std.specs.Prelude.{◌≡◌, ℕ, Bool, false, ◌==◌, List, Option, MatchOption}
use Rattle.std.specs.List.{list_any}
use Rattle.std.specs.declared.net.ip_addr.IpAddr.{IpAddr}
use Rattle.std.specs.declared.net.ip_addr.IpAddr.TheVariants.{V4, V6}
use Rattle.std.specs.Net.Addr.{ipv4_octets, ipv6_segments}
use Rattle.std.specs.Net.Grammar.{IsIpv4Text, IsIpv6Text}
use Rattle.std.specs.Net.Text.{ipv4_text, hex_groups_text}

abbrev pub has_dot : List ℕ → Bool
has_dot word = list_any (λ b. b == 46) word

-- the word spells the address
abbrev pub IsAddressText : List ℕ → IpAddr → Type 0
IsAddressText word (V4 a) = IsIpv4Text word a
IsAddressText word (V6 a) = IsIpv6Text word a × (has_dot word ≡ false)

-- the address that the word spells, or none where it spells none
abbrev pub ReadsAddress : List ℕ → Option IpAddr → Type 0
ReadsAddress word read = MatchOption read ((a : IpAddr) → ¬ (IsAddressText word a)) (IsAddressText word)

-- what is printed of an address
abbrev pub address_text : IpAddr → List ℕ
address_text (V4 a) = ipv4_text (ipv4_octets a)
address_text (V6 a) = hex_groups_text (ipv6_segments a)
