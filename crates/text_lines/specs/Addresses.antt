-- Addresses, each in its one spelling. IPv6 is spelled by RFC 5952 section 4, without dots: lower
-- case, no leading zeros, and `::` for the first longest run of two zero groups or more.
use Rattle.std.specs.Prelude.{◌≡◌, ℕ, List, Option, Some, None, Result, Ok, Err, if◌then◌else◌}
use Rattle.std.specs.Str.{bytes_eq}
use Rattle.std.specs.declared.net.ip_addr.IpAddr.{IpAddr}
use Rattle.std.specs.declared.net.ip_addr.IpAddr.TheVariants.{V4, V6}
use Rattle.std.specs.declared.net.ipv4_addr.Ipv4Addr.{Ipv4Addr}
use Rattle.std.specs.declared.net.ipv6_addr.Ipv6Addr.{Ipv6Addr}
use Rattle.std.specs.Net.Addr.{ipv6_segments, IsIpv6Addr}
use Rattle.std.specs.Net.Reader.{whole_value, read_ipv6}
use Rattle.std.specs.Net.Text.{hex_groups_text}
use Rattle.text_lines.specs.declared.words.LineError.{LineError}
use Rattle.text_lines.specs.declared.words.LineError.TheVariants.{Refused, NoMemory}
use Rattle.text_lines.specs.Numbers.{◌>>=◌, ipv4_of}

-- the word is the text of some address of IPv6
abbrev pub IsIpv6Word : List ℕ → Type 0
IsIpv6Word w = (a : Ipv6Addr) × IsIpv6Addr a × (w ≡ hex_groups_text (ipv6_segments a))

-- A word is read where it is the text of an address, and refused where it is the text of none.
abbrev pub ReadsIpv6 : Result Ipv6Addr LineError → List ℕ → Type 0
ReadsIpv6 (Ok a) w = IsIpv6Addr a × (w ≡ hex_groups_text (ipv6_segments a))
ReadsIpv6 (Err Refused) w = IsIpv6Word w → ⊥
ReadsIpv6 (Err NoMemory) w = Unit {0}

-- the address of IPv6 that a word is read as, where the word is its text
unfoldable pub ipv6_of : List ℕ → Option Ipv6Addr
ipv6_of w = whole_value (read_ipv6 w) >>= λ groups. if bytes_eq (hex_groups_text groups) w then Some (record { segments = groups }) else None

-- the address of either family that is there
abbrev pub either_family : Option Ipv4Addr → Option Ipv6Addr → Option IpAddr
either_family (Some a) r = Some (V4 a)
either_family None r = r >>= λ a. Some (V6 a)

abbrev pub ip_of : List ℕ → Option IpAddr
ip_of w = either_family (ipv4_of w) (ipv6_of w)
