-- Servers, and how they are reached.
use Rattle.std.specs.Prelude.{List, Bool, true, ◌&&◌, None}
use Rattle.std.specs.Bool.{beq}
use Rattle.std.specs.Cmp.{IsEquivalence, IsPartialEquivalence, on_equiv, and_equiv, bool_eq_equiv, partial_equiv_from_equiv}
use Rattle.std.specs.Cmp.Lexicographic.{pointwise, lists_equiv}
use Rattle.std.specs.declared.net.IpAddr.{IpAddr}
use Rattle.std.specs.contracts.net.ip_addr.IpAddrPartialEq.TheImpl as address_partial
use Rattle.std.specs.contracts.net.ip_addr.IpAddrEq.TheImpl.Laws as address_eq
use Rattle.dns_core.specs.declared.connection.ConnectionConfig.{ConnectionConfig}
use Rattle.dns_core.specs.declared.connection.ProtocolConfig.TheVariants.{Udp, Tcp, Tls, Quic}
use Rattle.dns_core.specs.contracts.connection.ConnectionConfigPartialEq.TheImpl as connection_partial
use Rattle.dns_core.specs.contracts.connection.ConnectionConfigEq.TheImpl.Laws as connection_eq
use Rattle.resolver_settings.specs.AddressText.{address_text}

-- a server: its address, whether it is believed that a name or a type does not exist, and the ways to reach it
pub record NameServer : Type 0 where
  pub ip : IpAddr
  pub trust_negative_responses : Bool
  pub connections : List ConnectionConfig

-- a server that is believed that a name or a type does not exist
abbrev pub believed : IpAddr → List ConnectionConfig → NameServer
believed ip connections = record { ip = ip; trust_negative_responses = true; connections = connections }

-- the port of DNS over UDP and TCP is 53 (RFC 1035 section 4.2)
abbrev pub over_udp : ConnectionConfig
over_udp = record { port = 53; protocol = Udp; bind_addr = None }

abbrev pub over_tcp : ConnectionConfig
over_tcp = record { port = 53; protocol = Tcp; bind_addr = None }

-- that over TLS is 853 (RFC 7858 section 3.1), and the server is named by its address
abbrev pub over_tls : IpAddr → ConnectionConfig
over_tls ip = record { port = 853; protocol = Tls (address_text ip); bind_addr = None }

-- and that over QUIC too (RFC 9250 section 4.1.1)
abbrev pub over_quic : IpAddr → ConnectionConfig
over_quic ip = record { port = 853; protocol = Quic (address_text ip); bind_addr = None }

-- the same address and trust, and equal ways in the same order
abbrev pub same_servers : NameServer → NameServer → Bool
same_servers a b = address_partial.ghosts.eq a.ip b.ip && (beq a.trust_negative_responses b.trust_negative_responses && pointwise connection_partial.ghosts.eq a.connections b.connections)

pub same_servers_equiv : IsEquivalence same_servers
same_servers_equiv = and_equiv (on_equiv (λ s. s.ip) address_eq.laws-law) (and_equiv (on_equiv (λ s. s.trust_negative_responses) bool_eq_equiv) (on_equiv (λ s. s.connections) (lists_equiv connection_eq.laws-law)))

pub same_servers_per : IsPartialEquivalence same_servers
same_servers_per = partial_equiv_from_equiv same_servers_equiv
