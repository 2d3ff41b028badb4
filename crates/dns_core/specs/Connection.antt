-- Transports.
use Rattle.std.specs.Prelude.{Bool, true, false}
use Rattle.std.specs.declared.net.IpAddr.{IpAddr}
use Rattle.dns_core.specs.declared.connection.Protocol.{Protocol}
use Rattle.dns_core.specs.declared.connection.Protocol.TheVariants as protocol
use Rattle.dns_core.specs.declared.connection.ProtocolConfig.{ProtocolConfig}
use Rattle.dns_core.specs.declared.connection.ProtocolConfig.TheVariants as config

abbrev pub protocol_of : ProtocolConfig → Protocol
protocol_of config.Udp = protocol.Udp
protocol_of config.Tcp = protocol.Tcp
protocol_of (config.Tls name) = protocol.Tls
protocol_of (config.Https name path) = protocol.Https
protocol_of (config.Quic name) = protocol.Quic
protocol_of (config.H3 name path grease) = protocol.H3

abbrev pub is_encrypted : Protocol → Bool
is_encrypted protocol.Udp = false
is_encrypted protocol.Tcp = false
is_encrypted protocol.Tls = true
is_encrypted protocol.Https = true
is_encrypted protocol.Quic = true
is_encrypted protocol.H3 = true

-- whom a connection reaches
pub record Peer : Type 0 where
  pub ip : IpAddr
  pub protocol : Protocol
