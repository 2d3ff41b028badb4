-- What a line says of a connection or of a question.
use Rattle.std.specs.Prelude.{ℕ, ◌+◌, ◌-◌, ◌<◌, Bool, true, Option, Some, None, Result, Ok, Err}
use Rattle.dns_core.specs.Message.{is_qualified_message}
use Rattle.dns_core.specs.NetError.{is_qualified_error}
use Rattle.dns_core.specs.declared.net_error.NetError.{NetError}
use Rattle.dns_core.specs.declared.net_error.NetError.TheVariants.{Busy, Io, Timeout, NoConnections, Truncated, QueryCaseMismatch, ForeignClassRecord, Dns, Msg, NoMemory}
use Rattle.dns_core.specs.declared.net_error.DnsError.{DnsError}
use Rattle.dns_core.specs.declared.net_error.DnsError.TheVariants.{NoRecordsFound, ResponseCode}
use Rattle.dns_core.specs.declared.message.Query.{Query}
use Rattle.dns_core.specs.declared.message.Message.{Message as Response}
use Rattle.dns_core.specs.declared.log.ToldOutcome.{ToldOutcome}
use Rattle.dns_core.specs.declared.log.ToldOutcome.TheVariants.{Connected, Message, Error}
use Rattle.script_upstream.specs.declared.script.script.ScriptLine.{ScriptLine}
use Rattle.script_upstream.specs.declared.script.script.ScriptLine.TheVariants.{Connect, Refuse, Reply}
use Rattle.script_upstream.specs.declared.courses.course.ScriptedReply.{ScriptedReply}
use Rattle.script_upstream.specs.declared.courses.course.ScriptedReply.TheVariants.{Never, After}

-- the error of a negative response has the question that was asked
abbrev pub dns_error_about : Query → DnsError → DnsError
dns_error_about q (NoRecordsFound n) = NoRecordsFound (record n { query = q })
dns_error_about q (ResponseCode code) = ResponseCode code

abbrev pub error_about : Query → NetError → NetError
error_about query (Dns e) = Dns (dns_error_about query e)
error_about query Busy = Busy
error_about query (Io kind) = Io kind
error_about query Timeout = Timeout
error_about query NoConnections = NoConnections
error_about query Truncated = Truncated
error_about query QueryCaseMismatch = QueryCaseMismatch
error_about query (ForeignClassRecord name dns_class record_type) = ForeignClassRecord name dns_class record_type
error_about query (Msg text) = Msg text
error_about query NoMemory = NoMemory

-- what is told for a question: the message, or the error, with this question
abbrev pub answer : Query → Result Response NetError → ToldOutcome
answer q (Ok m) = Message (record m { query = q })
answer q (Err e) = Error (error_about q e)

-- what a reply line says, of this question
abbrev pub reply_course : Query → ScriptLine → ScriptedReply
reply_course query (Reply ip protocol name query_type delay outcome) = After delay (answer query outcome)
reply_course query (Connect ip protocol delay error) = Never
reply_course query (Refuse ip protocol) = Never

abbrev pub connected_unless : Option NetError → ToldOutcome
connected_unless None = Connected
connected_unless (Some e) = Error e

-- what a connect line says
abbrev pub connect_course : ScriptLine → ScriptedReply
connect_course (Connect ip protocol delay error) = After delay (connected_unless error)
connect_course (Refuse ip protocol) = Never
connect_course (Reply ip protocol name query_type delay outcome) = Never

-- some polls find nothing yet
abbrev pub IsWaiting : ScriptedReply → Type 0
IsWaiting Never = Unit {0}
IsWaiting (After polls outcome) = 0 < polls

-- one poll less
abbrev pub shortened : ScriptedReply → ScriptedReply
shortened Never = Never
shortened (After polls outcome) = After (polls - 1) outcome

-- so many polls more
abbrev pub lengthened : ℕ → ScriptedReply → ScriptedReply
lengthened n Never = Never
lengthened n (After polls outcome) = After (polls + n) outcome

-- every name in the records told is fully qualified
abbrev pub is_qualified_told : ToldOutcome → Bool
is_qualified_told Connected = true
is_qualified_told (Message m) = is_qualified_message m
is_qualified_told (Error e) = is_qualified_error e

abbrev pub is_qualified_course : ScriptedReply → Bool
is_qualified_course Never = true
is_qualified_course (After polls outcome) = is_qualified_told outcome
