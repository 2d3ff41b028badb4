-- The one text of each value that a word stands for, and which values have one.
use Rattle.std.specs.Prelude.{◌≡◌, ℕ, ◌+◌, ◌<◌, ◌≤◌, List, [], ◌∷◌, ◌++◌, length, map, true, false, Ok, codes, decimal}
use Rattle.std.specs.List.{join_with_byte, AllByRecursion}
use Rattle.std.specs.declared.net.ip_addr.IpAddr.{IpAddr}
use Rattle.std.specs.declared.net.ip_addr.IpAddr.TheVariants.{V4, V6}
use Rattle.std.specs.Net.Addr.{IsIpv4Addr, IsIpv6Addr}
use Rattle.dns_core.specs.Name.{DomainName}
use Rattle.dns_core.specs.NameText.{name_of}
use Rattle.dns_core.specs.NameText.{text_of as name_text}
use Rattle.dns_core.specs.declared.codes.RecordType.{RecordType}
use Rattle.dns_core.specs.declared.codes.DnsClass.{DnsClass}
use Rattle.dns_core.specs.declared.codes.ResponseCode.{ResponseCode}
use Rattle.resolver_settings.specs.Net.{Network, width_of}
use Rattle.text_lines.specs.Texts.{ip_text}

-- ---- the texts of values

-- a network: its address, a slash, and how many bits count
abbrev pub net_text : Network → List ℕ
net_text n = ip_text n.addr ++ 47 ∷ decimal n.prefix

-- networks with commas between them, and a dash where there are none
abbrev pub nets_text : List Network → List ℕ
nets_text [] = codes "-"
nets_text (n ∷ ns) = join_with_byte 44 (map net_text (n ∷ ns))

-- numbers with commas between them, and a dash where there are none
abbrev pub numbers_text : List ℕ → List ℕ
numbers_text [] = codes "-"
numbers_text (n ∷ ns) = join_with_byte 44 (map decimal (n ∷ ns))

-- a line is its words, with a space between any two
abbrev pub spelled : List (List ℕ) → List ℕ
spelled words = join_with_byte 32 words

-- ---- the values that have one

-- a name that relaxed reading gives
abbrev pub IsName : DomainName → Type 0
IsName n = name_of false (name_text n) ≡ Ok n

abbrev pub IsFullName : DomainName → Type 0
IsFullName n = IsName n × (n.fqdn ≡ true)

abbrev pub IsAddress : IpAddr → Type 0
IsAddress (V4 a) = IsIpv4Addr a
IsAddress (V6 a) = IsIpv6Addr a

-- a type has 16 bits
abbrev pub IsType : RecordType → Type 0
IsType t = t.code ≤ 65535

-- a class has 16 bits
abbrev pub IsClass : DnsClass → Type 0
IsClass c = c.code ≤ 65535

-- as many bytes as the data of a record may have
abbrev pub AreBytes : List ℕ → Type 0
AreBytes bytes = AllByRecursion (λ b. b < 256) bytes × (length bytes ≤ 65535)

-- a response code has 16 bits
abbrev pub IsCode : ResponseCode → Type 0
IsCode c = c.code ≤ 65535

-- an address, and no more bits than those of its family have; the bits behind them may be set
pub record IsNet (n : Network) : Type 0 where
  pub address : IsAddress n.addr
  pub short : n.prefix ≤ width_of n.addr

-- ports of 16 bits, the first from this number on, and each above the one before
abbrev pub ArePorts : ℕ → List ℕ → Type 0
ArePorts low [] = Unit {0}
ArePorts low (port ∷ ports) = (low ≤ port) × (port ≤ 65535) × ArePorts (port + 1) ports

-- at least one delay, each from 1 to 31 microseconds
pub record AreFirstDelays (delays : List ℕ) : Type 0 where
  pub some : 0 < length delays
  pub each : AllByRecursion (λ delay. (1 ≤ delay) × (delay ≤ 31)) delays
