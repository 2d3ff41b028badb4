-- A response as it reads later: its TTLs count down (RFC 1035 section 3.2.1).
use Rattle.std.specs.Prelude.{ℕ, ◌-◌, map, Result, Ok, Err}
use Rattle.std.specs.Option.{option_map}
use Rattle.dns_core.specs.declared.record.Record.{Record}
use Rattle.dns_core.specs.declared.message.Message.{Message}
use Rattle.dns_core.specs.declared.net_error.ForwardNsData.{ForwardNsData}
use Rattle.dns_core.specs.declared.net_error.NoRecords.{NoRecords}
use Rattle.dns_core.specs.declared.net_error.DnsError.{DnsError}
use Rattle.dns_core.specs.declared.net_error.DnsError.TheVariants.{NoRecordsFound, ResponseCode}
use Rattle.dns_core.specs.declared.net_error.NetError.{NetError}
use Rattle.dns_core.specs.declared.net_error.NetError.TheVariants.{Busy, Io, Timeout, NoConnections, Truncated, QueryCaseMismatch, ForeignClassRecord, Dns, Msg, NoMemory}

-- a TTL so many seconds lower, not below 0
abbrev pub lowered_record : ℕ → Record → Record
lowered_record n r = record r { ttl = r.ttl - n }

abbrev pub lowered_message : ℕ → Message → Message
lowered_message n m =
    record m { answers = map (lowered_record n) m.answers; authorities = map (lowered_record n) m.authorities; additionals = map (lowered_record n) m.additionals }

abbrev pub lowered_delegation : ℕ → ForwardNsData → ForwardNsData
lowered_delegation n d = record d { ns = lowered_record n d.ns; glue = map (lowered_record n) d.glue }

abbrev pub lowered_denial : ℕ → NoRecords → NoRecords
lowered_denial n d =
    record d { soa = option_map (lowered_record n) d.soa; ns = option_map (map (lowered_delegation n)) d.ns; authorities = map (lowered_record n) d.authorities }

abbrev pub lowered_dns : ℕ → DnsError → DnsError
lowered_dns n (NoRecordsFound d) = NoRecordsFound (lowered_denial n d)
lowered_dns n (ResponseCode code) = ResponseCode code

-- no other error has records
abbrev pub lowered_error : ℕ → NetError → NetError
lowered_error n (Dns d) = Dns (lowered_dns n d)
lowered_error n Busy = Busy
lowered_error n (Io kind) = Io kind
lowered_error n Timeout = Timeout
lowered_error n NoConnections = NoConnections
lowered_error n Truncated = Truncated
lowered_error n QueryCaseMismatch = QueryCaseMismatch
lowered_error n (ForeignClassRecord name dns_class record_type) = ForeignClassRecord name dns_class record_type
lowered_error n (Msg text) = Msg text
lowered_error n NoMemory = NoMemory

abbrev pub lowered : ℕ → Result Message NetError → Result Message NetError
lowered n (Ok m) = Ok (lowered_message n m)
lowered n (Err e) = Err (lowered_error n e)
