-- The records of a zone that an answer takes, in the zone's order.
use Rattle.std.specs.Prelude.{Bool, false, ◌&&◌, ◌||◌, ◌==◌, List, filter, find, Option}
use Rattle.std.specs.List.{list_any}
use Rattle.std.specs.Option.{is_some, option_to_list}
use Rattle.dns_core.specs.Name.{DomainName, same_names}
use Rattle.dns_core.specs.Classifying.{is_soa, is_ns, is_address}
use Rattle.dns_core.specs.declared.codes.RecordType.{RecordType}
use Rattle.dns_core.specs.declared.record.Record.{Record}
use Rattle.dns_core.specs.declared.record.RData.TheVariants.{NS}
use Rattle.resolution.specs.Names.{is_above}
use Rattle.resolution.specs.Records.{cname_target}
use Rattle.zone_rules.specs.declared.world.Zone.{Zone}

-- the record is of the type; ANY stands for all types (RFC 1035 section 3.2.3)
abbrev pub is_of : RecordType → Record → Bool
is_of t r = t.code == 255 || r.record_type.code == t.code

-- the records of the type at a name
abbrev pub owned : Zone → DomainName → RecordType → List Record
owned z n t = filter (λ r. same_names r.name n && is_of t r) z.records

-- an alias of the name (RFC 1034 section 3.6.2)
abbrev pub is_alias : DomainName → Record → Bool
is_alias n r = is_some (cname_target r) && same_names r.name n

-- the first alias of the name
abbrev pub alias_in : Zone → DomainName → Option Record
alias_in z n = find (is_alias n) z.records

-- the first SOA record at the apex, for negative answers (RFC 2308 section 3)
abbrev pub soa_of : Zone → List Record
soa_of z = option_to_list (find (λ r. is_soa r && same_names r.name z.apex) z.records)

-- the NS records of a name
abbrev pub servers : Zone → DomainName → List Record
servers z owner = filter (λ r. is_ns r && same_names r.name owner) z.records

-- an NS record of the owner names the target
abbrev pub names_server : DomainName → DomainName → Record → Bool
names_server owner target r = elim (r.rdata) [ NS t ↦ same_names r.name owner && same_names t target | _ ↦ false ]

-- the addresses that the zone holds, at or below its apex, for the targets of the NS records of a name
abbrev pub server_addresses : Zone → DomainName → List Record
server_addresses z owner = filter (λ r. is_address r && is_above z.apex r.name && list_any (names_server owner r.name) z.records) z.records
