-- What a response is.
use Rattle.std.specs.Prelude.{Bool, true, false, ◌&&◌, ◌||◌, ◌==◌, not, List, [], filter, find, map, length, if◌then◌else◌, Some, None, Result, Ok, Err}
use Rattle.std.specs.List.{list_any}
use Rattle.dns_core.specs.Name.{DomainName, same_names}
use Rattle.dns_core.specs.declared.message.Query.{Query}
use Rattle.dns_core.specs.declared.record.RData.TheVariants.{A, AAAA, NS, SOA}
use Rattle.dns_core.specs.declared.net_error.NoRecords.{NoRecords}
use Rattle.dns_core.specs.declared.net_error.ForwardNsData.{ForwardNsData}
use Rattle.dns_core.specs.declared.net_error.DnsError.{DnsError}
use Rattle.dns_core.specs.declared.net_error.DnsError.TheVariants.{NoRecordsFound, ResponseCode}
use Rattle.dns_core.specs.declared.record.Record.{Record}
use Rattle.dns_core.specs.declared.message.Message.{Message}

-- a record of the asked type, named as the question
abbrev pub is_asked : Query → Record → Bool
is_asked query r = r.record_type.code == query.query_type.code && same_names r.name query.name

abbrev pub is_soa : Record → Bool
is_soa r = elim (r.rdata) [ SOA s ↦ true | _ ↦ false ]

abbrev pub is_ns : Record → Bool
is_ns r = elim (r.rdata) [ NS n ↦ true | _ ↦ false ]

abbrev pub is_address : Record → Bool
is_address r = elim (r.rdata) [ A ip ↦ true | AAAA ip ↦ true | _ ↦ false ]

-- an address record of the target
abbrev pub is_glue_for : DomainName → Record → Bool
is_glue_for target r = is_address r && same_names r.name target

-- without answers, and without a record of the asked type named as the question
abbrev pub has_no_data : Message → Bool
has_no_data m = length m.answers == 0 && not (list_any (is_asked m.query) m.authorities) && not (list_any (is_asked m.query) m.additionals)

-- an NS record with the address records of its target
abbrev pub glue_of : List Record → Record → ForwardNsData
glue_of additionals r = record { ns = r; glue = elim (r.rdata) [ NS target ↦ filter (is_glue_for target) additionals | _ ↦ [] ] }

abbrev pub delegations : List Record → List Record → List ForwardNsData
delegations authorities additionals = map (glue_of additionals) (filter is_ns authorities)

abbrev pub no_records : Message → NoRecords
no_records m = record {
  query = m.query;
  soa = find is_soa m.authorities;
  ns = if length (filter is_ns m.authorities) == 0 then None else Some (delegations m.authorities m.additionals);
  response_code = m.response_code;
  authorities = m.authorities;
}

abbrev pub classify_of : Message → Result Message DnsError
classify_of m =
    if not (m.response_code.code == 0 || m.response_code.code == 3) then Err (ResponseCode m.response_code) else (
    if m.truncation then Ok m else (
    if has_no_data m then Err (NoRecordsFound (no_records m)) else Ok m))
