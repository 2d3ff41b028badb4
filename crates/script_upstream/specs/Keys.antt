-- When two connections or two questions are alike.
use Rattle.std.specs.Prelude.{Bool, ◌&&◌, ◌==◌}
use Rattle.std.specs.declared.net.IpAddr.{IpAddr}
use Rattle.std.specs.contracts.net.ip_addr.IpAddrPartialEq.TheImpl as address
use Rattle.dns_core.specs.Name.{same_names}
use Rattle.dns_core.specs.declared.connection.Protocol.{Protocol}
use Rattle.dns_core.specs.contracts.connection.ProtocolPartialEq.TheImpl as protocol
use Rattle.script_upstream.specs.declared.courses.index.Endpoint.{Endpoint}
use Rattle.script_upstream.specs.declared.courses.index.Asking.{Asking}

-- the same address
abbrev pub same_ip : IpAddr → IpAddr → Bool
same_ip a b = address.ghosts.eq a b

-- the same protocol
abbrev pub same_protocol : Protocol → Protocol → Bool
same_protocol a b = protocol.ghosts.eq a b

abbrev pub same_endpoint : Endpoint → Endpoint → Bool
same_endpoint a b = same_ip a.ip b.ip && same_protocol a.protocol b.protocol

-- the same address, protocol, name and type, the name without ASCII case
abbrev pub same_asking : Asking → Asking → Bool
same_asking a b = same_ip a.ip b.ip && (same_protocol a.protocol b.protocol && (same_names a.name b.name && a.query_type.code == b.query_type.code))
