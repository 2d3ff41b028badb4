-- What records hold, and the records of a message.
use Rattle.std.specs.Prelude.{Bool, List, ◌++◌, filter, Option, Some, None}
use Rattle.std.specs.declared.net.ip_addr.IpAddr.{IpAddr}
use Rattle.std.specs.declared.net.ip_addr.IpAddr.TheVariants.{V4, V6}
use Rattle.dns_core.specs.Name.{DomainName}
use Rattle.dns_core.specs.declared.record.Record.{Record}
use Rattle.dns_core.specs.declared.record.RData.TheVariants.{A, AAAA, NS, CNAME}
use Rattle.dns_core.specs.declared.message.Message.{Message}

-- the address that a record holds
abbrev pub address : Record → Option IpAddr
address r = elim (r.rdata) [ A ip ↦ Some (V4 ip) | AAAA ip ↦ Some (V6 ip) | _ ↦ None ]

-- the target of an NS record
abbrev pub ns_target : Record → Option DomainName
ns_target r = elim (r.rdata) [ NS n ↦ Some n | _ ↦ None ]

-- the target of a CNAME record
abbrev pub cname_target : Record → Option DomainName
cname_target r = elim (r.rdata) [ CNAME n ↦ Some n | _ ↦ None ]

-- all records, section by section
abbrev pub records : Message → List Record
records m = m.answers ++ m.authorities ++ m.additionals

-- the message with the records that pass
abbrev pub only : (Record → Bool) → Message → Message
only p m = record m { answers = filter p m.answers; authorities = filter p m.authorities; additionals = filter p m.additionals }
