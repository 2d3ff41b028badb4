-- Errors of transport and of responses.
use Rattle.std.specs.Prelude.{Bool, true, false, ◌&&◌, ◌==◌, Option, Some, None, List, is_some, option_and_then}
use Rattle.std.specs.Option.{option_map, option_map_or}
use Rattle.std.specs.List.{list_all}
use Rattle.dns_core.specs.Message.{is_qualified_record}
use Rattle.dns_core.specs.declared.message.Query.{Query}
use Rattle.dns_core.specs.declared.record.Record.{Record}
use Rattle.dns_core.specs.declared.net_error.ForwardNsData.{ForwardNsData}
use Rattle.dns_core.specs.declared.net_error.NoRecords.{NoRecords}
use Rattle.dns_core.specs.declared.net_error.DnsError.{DnsError}
use Rattle.dns_core.specs.declared.net_error.DnsError.TheVariants.{NoRecordsFound, ResponseCode}
use Rattle.dns_core.specs.declared.net_error.IoKind.TheVariants.{Closed, Refused, Other}
use Rattle.dns_core.specs.declared.net_error.NetError.{NetError}
use Rattle.dns_core.specs.declared.net_error.NetError.TheVariants.{Busy, Io, Timeout, NoConnections, Truncated, QueryCaseMismatch, ForeignClassRecord, Dns, Msg, NoMemory}

-- out of memory, the error that no log shows
abbrev pub is_memory : NetError → Bool
is_memory NoMemory = true
is_memory Busy = false
is_memory (Io kind) = false
is_memory Timeout = false
is_memory NoConnections = false
is_memory Truncated = false
is_memory QueryCaseMismatch = false
is_memory (ForeignClassRecord name dns_class record_type) = false
is_memory (Dns e) = false
is_memory (Msg text) = false

abbrev pub is_qualified_option : Option Record → Bool
is_qualified_option None = true
is_qualified_option (Some r) = is_qualified_record r

abbrev pub is_qualified_forward : ForwardNsData → Bool
is_qualified_forward f = is_qualified_record f.ns && list_all is_qualified_record f.glue

abbrev pub are_qualified_forwards : Option (List ForwardNsData) → Bool
are_qualified_forwards None = true
are_qualified_forwards (Some fs) = list_all is_qualified_forward fs

-- every name in the records that it holds is fully qualified
abbrev pub is_qualified_dns : DnsError → Bool
is_qualified_dns (NoRecordsFound n) = is_qualified_option n.soa && are_qualified_forwards n.ns && list_all is_qualified_record n.authorities
is_qualified_dns (ResponseCode code) = true

abbrev pub is_qualified_error : NetError → Bool
is_qualified_error (ForeignClassRecord name dns_class record_type) = name.fqdn
is_qualified_error (Dns e) = is_qualified_dns e
is_qualified_error Busy = true
is_qualified_error (Io kind) = true
is_qualified_error Timeout = true
is_qualified_error NoConnections = true
is_qualified_error Truncated = true
is_qualified_error QueryCaseMismatch = true
is_qualified_error (Msg text) = true
is_qualified_error NoMemory = true

-- a response without such records, with what it holds
abbrev pub negative_data : NetError → Option NoRecords
negative_data (Dns (NoRecordsFound n)) = Some n
negative_data (Dns (ResponseCode code)) = None
negative_data Busy = None
negative_data (Io kind) = None
negative_data Timeout = None
negative_data NoConnections = None
negative_data Truncated = None
negative_data QueryCaseMismatch = None
negative_data (ForeignClassRecord name dns_class record_type) = None
negative_data (Msg text) = None
negative_data NoMemory = None

-- the question of a negative response
abbrev pub negative_query : NetError → Option Query
negative_query error = option_map (λ n. n.query) (negative_data error)

abbrev pub is_no_records : NetError → Bool
is_no_records error = is_some (negative_data error)

-- a negative response whose code says that there is no such name
abbrev pub is_nx_domain : NetError → Bool
is_nx_domain error = option_map_or (λ n. n.response_code.code == 3) (negative_data error) false

abbrev pub soa_of : NetError → Option Record
soa_of error = option_and_then (λ n. n.soa) (negative_data error)

-- closed by the other side
abbrev pub is_closed : NetError → Bool
is_closed (Io Closed) = true
is_closed (Io Refused) = false
is_closed (Io Other) = false
is_closed Busy = false
is_closed Timeout = false
is_closed NoConnections = false
is_closed Truncated = false
is_closed QueryCaseMismatch = false
is_closed (ForeignClassRecord name dns_class record_type) = false
is_closed (Dns e) = false
is_closed (Msg text) = false
is_closed NoMemory = false
