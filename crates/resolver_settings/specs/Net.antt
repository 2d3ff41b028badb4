-- Networks of addresses in CIDR notation: RFC 4632 section 3.1 for IPv4, RFC 4291 section 2.3 for IPv6.
use Rattle.std.specs.Prelude.{◌≡◌, ℕ, ◌≤◌, ◌<◌, ◌+◌, ◌-◌, ◌*◌, ◌/◌, ◌^◌, ◌==◌, ◌&&◌, Bool, false, List}
use Rattle.std.specs.Bool.{beq}
use Rattle.std.specs.Int.{bit_at}
use Rattle.std.specs.declared.net.ip_addr.IpAddr.{IpAddr}
use Rattle.std.specs.declared.net.ip_addr.IpAddr.TheVariants.{V4, V6}
use Rattle.std.specs.Net.Addr.{ipv4_bits, ipv6_bits, is_ipv4}

-- an address, and how many of its bits count
pub record Network : Type 0 where
  pub addr : IpAddr
  pub prefix : ℕ

-- how many bits an address of this family has
abbrev pub width_of : IpAddr → ℕ
width_of (V4 ip) = 32
width_of (V6 ip) = 128

-- the bits of an address, as a number
abbrev pub number_of : IpAddr → ℕ
number_of (V4 ip) = ipv4_bits ip
number_of (V6 ip) = ipv6_bits ip

-- the prefix and the number have no more bits than the family
abbrev pub IsWithinFamily : IpAddr → ℕ → Type 0
IsWithinFamily addr prefix = (prefix ≤ width_of addr) × (number_of addr < 2 ^ width_of addr)

-- the first `prefix` bits of a number of `width` bits, as a number
abbrev pub first_bits : ℕ → ℕ → ℕ → ℕ
first_bits width prefix n = n / 2 ^ (width - prefix)

-- the first number with these first bits, and the last one
abbrev pub lowest_of : IpAddr → ℕ → ℕ
lowest_of addr prefix = first_bits (width_of addr) prefix (number_of addr) * 2 ^ (width_of addr - prefix)

abbrev pub highest_of : IpAddr → ℕ → ℕ
highest_of addr prefix = lowest_of addr prefix + (2 ^ (width_of addr - prefix) - 1)

-- the network is of this family, and the number begins with its bits
abbrev pub holds : Network → Bool → ℕ → Bool
holds net four n = beq (is_ipv4 net.addr) four
    && (first_bits (width_of net.addr) net.prefix n == first_bits (width_of net.addr) net.prefix (number_of net.addr))

-- the address is of the family, and begins with the same bits
abbrev pub begins_with : IpAddr → ℕ → IpAddr → Bool
begins_with (V4 a) prefix (V4 ip) = first_bits 32 prefix (ipv4_bits ip) == first_bits 32 prefix (ipv4_bits a)
begins_with (V4 a) prefix (V6 ip) = false
begins_with (V6 a) prefix (V4 ip) = false
begins_with (V6 a) prefix (V6 ip) = first_bits 128 prefix (ipv6_bits ip) == first_bits 128 prefix (ipv6_bits a)

-- the network holds the address
abbrev pub contains : Network → IpAddr → Bool
contains net ip = begins_with net.addr net.prefix ip

-- bit k of an address of its family, counted from its first
abbrev pub bit_of : IpAddr → ℕ → ℕ
bit_of (V4 ip) k = bit_at (ipv4_bits ip) (31 - k)
bit_of (V6 ip) k = bit_at (ipv6_bits ip) (127 - k)

-- the address is of the network's family, and each bit of the prefix is the network's
abbrev pub SharesPrefix : Network → IpAddr → Type 0
SharesPrefix net ip = (is_ipv4 ip ≡ is_ipv4 net.addr) × ((k : ℕ) → k < net.prefix → bit_of ip k ≡ bit_of net.addr k)

-- the network of four octets
abbrev pub ipv4_net : List ℕ → ℕ → Network
ipv4_net octets prefix = record { addr = V4 (record { octets = octets }); prefix = prefix }

-- the network of eight segments
abbrev pub ipv6_net : List ℕ → ℕ → Network
ipv6_net segments prefix = record { addr = V6 (record { segments = segments }); prefix = prefix }
