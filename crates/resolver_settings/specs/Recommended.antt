-- The networks in which no server of a recursor can be, each with the use that it is reserved for. They are rows of
-- the IANA special-purpose address registries (RFC 6890), and the multicast addresses of IPv6.
use Rattle.std.specs.Prelude.{List, [], ◌∷◌, ◌++◌}
use Rattle.resolver_settings.specs.Net.{Network, ipv4_net, ipv6_net}

abbrev pub special_ipv4_nets : List Network
special_ipv4_nets =
    ipv4_net (127 ∷ 0 ∷ 0 ∷ 0 ∷ []) 8  -- loopback (RFC 1122)
    ∷ ipv4_net (0 ∷ 0 ∷ 0 ∷ 0 ∷ []) 8  -- this network (RFC 791)
    ∷ ipv4_net (255 ∷ 255 ∷ 255 ∷ 255 ∷ []) 32  -- limited broadcast (RFC 919)
    ∷ ipv4_net (10 ∷ 0 ∷ 0 ∷ 0 ∷ []) 8  -- private use (RFC 1918)
    ∷ ipv4_net (172 ∷ 16 ∷ 0 ∷ 0 ∷ []) 12  -- private use (RFC 1918)
    ∷ ipv4_net (192 ∷ 168 ∷ 0 ∷ 0 ∷ []) 16  -- private use (RFC 1918)
    ∷ ipv4_net (100 ∷ 64 ∷ 0 ∷ 0 ∷ []) 10  -- shared address space (RFC 6598)
    ∷ ipv4_net (169 ∷ 254 ∷ 0 ∷ 0 ∷ []) 16  -- link local (RFC 3927)
    ∷ ipv4_net (192 ∷ 0 ∷ 0 ∷ 0 ∷ []) 24  -- IETF protocol assignments (RFC 6890)
    ∷ ipv4_net (192 ∷ 0 ∷ 2 ∷ 0 ∷ []) 24  -- documentation (RFC 5737)
    ∷ ipv4_net (198 ∷ 51 ∷ 100 ∷ 0 ∷ []) 24  -- documentation (RFC 5737)
    ∷ ipv4_net (203 ∷ 0 ∷ 113 ∷ 0 ∷ []) 24  -- documentation (RFC 5737)
    ∷ ipv4_net (240 ∷ 0 ∷ 0 ∷ 0 ∷ []) 4  -- reserved (RFC 1112)
    ∷ []

abbrev pub special_ipv6_nets : List Network
special_ipv6_nets =
    ipv6_net (0 ∷ 0 ∷ 0 ∷ 0 ∷ 0 ∷ 0 ∷ 0 ∷ 1 ∷ []) 128  -- loopback (RFC 4291)
    ∷ ipv6_net (0 ∷ 0 ∷ 0 ∷ 0 ∷ 0 ∷ 0 ∷ 0 ∷ 0 ∷ []) 128  -- unspecified (RFC 4291)
    ∷ ipv6_net (0x100 ∷ 0 ∷ 0 ∷ 0 ∷ 0 ∷ 0 ∷ 0 ∷ 0 ∷ []) 64  -- discard only (RFC 6666)
    ∷ ipv6_net (0x2001 ∷ 0xdb8 ∷ 0 ∷ 0 ∷ 0 ∷ 0 ∷ 0 ∷ 0 ∷ []) 32  -- documentation (RFC 3849)
    ∷ ipv6_net (0x3fff ∷ 0 ∷ 0 ∷ 0 ∷ 0 ∷ 0 ∷ 0 ∷ 0 ∷ []) 20  -- documentation (RFC 9637)
    ∷ ipv6_net (0x5f00 ∷ 0 ∷ 0 ∷ 0 ∷ 0 ∷ 0 ∷ 0 ∷ 0 ∷ []) 16  -- segment routing (RFC 9602)
    ∷ ipv6_net (0xfc00 ∷ 0 ∷ 0 ∷ 0 ∷ 0 ∷ 0 ∷ 0 ∷ 0 ∷ []) 7  -- unique local (RFC 4193)
    ∷ ipv6_net (0xfe80 ∷ 0 ∷ 0 ∷ 0 ∷ 0 ∷ 0 ∷ 0 ∷ 0 ∷ []) 64  -- link local (RFC 4291)
    ∷ ipv6_net (0xff00 ∷ 0 ∷ 0 ∷ 0 ∷ 0 ∷ 0 ∷ 0 ∷ 0 ∷ []) 8  -- multicast (RFC 4291)
    ∷ []

abbrev pub special_nets : List Network
special_nets = special_ipv4_nets ++ special_ipv6_nets
