-- What a response is for the question that it was told for.
use Rattle.std.specs.Prelude.{Bool, ◌&&◌, ◌||◌, ◌==◌, not, length, find, if◌then◌else◌, Option, Some, None, Result, Ok, Err}
use Rattle.std.specs.List.{list_any}
use Rattle.dns_core.specs.Classifying.{is_asked, no_records}
use Rattle.dns_core.specs.declared.message.Query.{Query}
use Rattle.dns_core.specs.declared.message.Message.{Message}
use Rattle.dns_core.specs.declared.record.Record.{Record}
use Rattle.dns_core.specs.declared.net_error.NetError.{NetError}
use Rattle.dns_core.specs.declared.net_error.NetError.TheVariants as net
use Rattle.dns_core.specs.declared.net_error.DnsError.{DnsError}
use Rattle.dns_core.specs.declared.net_error.DnsError.TheVariants as dns
use Rattle.dns_core.specs.declared.log.ToldOutcome.{ToldOutcome}
use Rattle.dns_core.specs.declared.log.ToldOutcome.TheVariants as outcome
use Rattle.resolution.specs.Records.{records}
use Rattle.resolution.specs.declared.class.Class.{Class}
use Rattle.resolution.specs.declared.class.Class.TheVariants.{Error, Code, Truncated, Negative, Foreign, Positive}

-- no answers, and no record of the asked type named as the question (RFC 2308 section 2)
abbrev pub has_no_data_for : Query → Message → Bool
has_no_data_for query m = length m.answers == 0 && not (list_any (is_asked query) m.authorities) && not (list_any (is_asked query) m.additionals)

-- the record's class is not the question's
abbrev pub is_foreign : Query → Record → Bool
is_foreign query r = not (r.dns_class.code == query.query_class.code)

-- A code other than NoError and NXDomain; else a cut message; else one without the data (RFC 2308 section 2); else one with records of another class; else an answer.
abbrev pub class_of_message : Message → Query → Class
class_of_message m query =
    if not (m.response_code.code == 0 || m.response_code.code == 3) then Code m.response_code else (
    if m.truncation then Truncated else (
    if has_no_data_for query m then Negative (no_records m) else
    elim (find (is_foreign query) (records m)) [ Some r ↦ Foreign r | None ↦ Positive m ]))

-- what a classified message is for a question
abbrev pub class_of_classified : Query → Result Message DnsError → Class
class_of_classified query (Err (dns.ResponseCode code)) = Code code
class_of_classified query (Err (dns.NoRecordsFound found)) = Negative found
class_of_classified query (Ok m) = if m.truncation then Truncated else elim (find (is_foreign query) (records m)) [ Some r ↦ Foreign r | None ↦ Positive m ]

-- What a response told is that; every other error is itself.
abbrev pub class_of_error : NetError → Class
class_of_error (net.Dns (dns.NoRecordsFound found)) = Negative found
class_of_error (net.Dns (dns.ResponseCode code)) = Code code
class_of_error net.Busy = Error net.Busy
class_of_error (net.Io kind) = Error (net.Io kind)
class_of_error net.Timeout = Error net.Timeout
class_of_error net.NoConnections = Error net.NoConnections
class_of_error net.Truncated = Error net.Truncated
class_of_error net.QueryCaseMismatch = Error net.QueryCaseMismatch
class_of_error (net.ForeignClassRecord n c t) = Error (net.ForeignClassRecord n c t)
class_of_error (net.Msg text) = Error (net.Msg text)
class_of_error net.NoMemory = Error net.NoMemory

-- of what was told for a question; that a connection stands answers nothing
abbrev pub class_of : ToldOutcome → Query → Option Class
class_of outcome.Connected query = None
class_of (outcome.Message m) query = Some (class_of_message m query)
class_of (outcome.Error e) query = Some (class_of_error e)
