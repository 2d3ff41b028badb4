-- The one text of each line, and what a line may say.
use Rattle.std.specs.Prelude.{◌≡◌, ℕ, ◌<◌, ◌≤◌, ◌⊎◌, List, [], ◌∷◌, ◌++◌, length, map, Bool, true, false, Option, Some, None, IfSome, Ok, Err, codes, decimal}
use Rattle.std.specs.List.{AllByRecursion}
use Rattle.std.specs.declared.net.ip_addr.IpAddr.{IpAddr}
use Rattle.std.specs.Net.Addr.{IsIpv4Addr, IsIpv6Addr}
use Rattle.dns_core.specs.Name.{DomainName}
use Rattle.dns_core.specs.NameText.{text_of as name_text}
use Rattle.dns_core.specs.declared.codes.RecordType.{RecordType}
use Rattle.dns_core.specs.declared.connection.Protocol.{Protocol}
use Rattle.dns_core.specs.declared.connection.Protocol.TheVariants.{Udp, Tcp}
use Rattle.dns_core.specs.declared.message.Message.{Message}
use Rattle.dns_core.specs.declared.net_error.NetError.{NetError}
use Rattle.dns_core.specs.declared.net_error.NetError.TheVariants.{Busy, Io, Timeout, NoConnections, QueryCaseMismatch}
use Rattle.dns_core.specs.declared.record.RData.{RData}
use Rattle.dns_core.specs.declared.record.RData.TheVariants.{A, AAAA, NS, CNAME, SOA, RRSIG, Opaque}
use Rattle.dns_core.specs.declared.record.Record.{Record}
use Rattle.dns_core.specs.declared.record.Soa.{Soa}
use Rattle.dns_core.specs.declared.request.Question.{Question}
use Rattle.dns_core.specs.declared.request.Turn.{Turn}
use Rattle.resolver_settings.specs.Recommended.{special_nets}
use Rattle.resolver_settings.specs.Ttl.{TtlTable, one_day}
use Rattle.recursor_types.specs.declared.options.RecursorOptions.{RecursorOptions}
use Rattle.script_upstream.specs.declared.script.script.ScriptLine.{ScriptLine}
use Rattle.script_upstream.specs.declared.script.script.ScriptLine.TheVariants.{Connect, Refuse, Reply}
use Rattle.text_lines.specs.declared.lines.option_form.Bounds.{Bounds}
use Rattle.text_lines.specs.declared.lines.option_form.OptionLine.{OptionLine}
use Rattle.text_lines.specs.declared.lines.option_form.OptionLine.TheVariants.{ResponseCacheSize, RecursionLimit, NsRecursionLimit, AllowAnswers, DenyAnswers, AllowServer, DenyServer, AvoidLocalUdpPorts, PositiveTtl, NegativeTtl, CaseRandomization, EdnsPayloadLen, FirstDelays}
use Rattle.text_lines.specs.Codes.{class_in}
use Rattle.text_lines.specs.Texts.{flag_text, ip_text, protocol_text, error_word, flags_text, record_words}
use Rattle.dns_core.specs.CodeTexts.{type_text, response_code_text}
use Rattle.text_lines.specs.Spelling.{nets_text, numbers_text, spelled, IsName, IsFullName, IsAddress, IsType, AreBytes, IsClass, IsCode, IsNet, ArePorts, AreFirstDelays}

-- ---- the words of each line

abbrev pub dnssec_text : Bool → List ℕ
dnssec_text false = codes "plain"
dnssec_text true = codes "dnssec"

abbrev pub head_words : List (List ℕ)
head_words = codes "recursor" ∷ codes "1" ∷ []

abbrev pub root_words : IpAddr → List (List ℕ)
root_words ip = codes "root" ∷ ip_text ip ∷ []

-- the least and the greatest
abbrev pub bounds_words : Bounds → List (List ℕ)
bounds_words b = decimal b.least ∷ decimal b.most ∷ []

-- the name of an option, and its value
abbrev pub named_words : OptionLine → List (List ℕ)
named_words (ResponseCacheSize size) = codes "response_cache_size" ∷ decimal size ∷ []
named_words (RecursionLimit most) = codes "recursion_limit" ∷ decimal most ∷ []
named_words (NsRecursionLimit most) = codes "ns_recursion_limit" ∷ decimal most ∷ []
named_words (AllowAnswers nets) = codes "allow_answers" ∷ nets_text nets ∷ []
named_words (DenyAnswers nets) = codes "deny_answers" ∷ nets_text nets ∷ []
named_words (AllowServer nets) = codes "allow_server" ∷ nets_text nets ∷ []
named_words (DenyServer nets) = codes "deny_server" ∷ nets_text nets ∷ []
named_words (AvoidLocalUdpPorts ports) = codes "avoid_local_udp_ports" ∷ numbers_text ports ∷ []
named_words (PositiveTtl b) = codes "positive_ttl" ∷ bounds_words b
named_words (NegativeTtl b) = codes "negative_ttl" ∷ bounds_words b
named_words (CaseRandomization on) = codes "case_randomization" ∷ flag_text on ∷ []
named_words (EdnsPayloadLen bytes) = codes "edns_payload_len" ∷ decimal bytes ∷ []
named_words (FirstDelays delays) = codes "first_delays" ∷ numbers_text delays ∷ []

abbrev pub option_words : OptionLine → List (List ℕ)
option_words o = codes "option" ∷ named_words o

abbrev pub patience_words : ℕ → List (List ℕ)
patience_words n = codes "patience" ∷ decimal n ∷ []

abbrev pub told_words : List (List ℕ)
told_words = codes "told" ∷ codes "script" ∷ []

abbrev pub question_words : Question → List (List ℕ)
question_words q = codes "question" ∷ name_text q.query.name ∷ type_text q.query.query_type ∷ dnssec_text q.dnssec_ok ∷ []

abbrev pub turn_words : Turn → List (List ℕ)
turn_words t = codes "turn" ∷ decimal t.question ∷ decimal t.moment ∷ []

abbrev pub end_words : List (List ℕ)
end_words = codes "end" ∷ []

-- a message head, with three counts
abbrev pub counted_words : Message → ℕ → ℕ → ℕ → List (List ℕ)
counted_words m a b c = codes "message" ∷ response_code_text m.response_code ∷ flags_text m.authoritative m.truncation ∷ decimal a ∷ decimal b ∷ decimal c ∷ []

-- a rule that tells a message, with three counts
abbrev pub reply_words : IpAddr → Protocol → DomainName → RecordType → ℕ → Message → ℕ → ℕ → ℕ → List (List ℕ)
reply_words ip protocol name type delay m a b c = codes "reply" ∷ ip_text ip ∷ protocol_text protocol ∷ name_text name ∷ type_text type ∷ decimal delay ∷ counted_words m a b c

-- an error that a connection or a question comes to
abbrev pub error_words : NetError → List (List ℕ)
error_words error = codes "error" ∷ error_word error ∷ []

-- a rule that tells an error
abbrev pub failed_words : IpAddr → Protocol → DomainName → RecordType → ℕ → NetError → List (List ℕ)
failed_words ip protocol name type delay error = codes "reply" ∷ ip_text ip ∷ protocol_text protocol ∷ name_text name ∷ type_text type ∷ decimal delay ∷ error_words error

-- what a connection comes to: that it is there, or an error
abbrev pub connected_words : Option NetError → List (List ℕ)
connected_words None = codes "ok" ∷ []
connected_words (Some e) = error_words e

abbrev pub connect_words : IpAddr → Protocol → ℕ → Option NetError → List (List ℕ)
connect_words ip protocol delay error = codes "connect" ∷ ip_text ip ∷ protocol_text protocol ∷ decimal delay ∷ connected_words error

abbrev pub refuse_words : IpAddr → Protocol → List (List ℕ)
refuse_words ip protocol = codes "refuse" ∷ ip_text ip ∷ protocol_text protocol ∷ []

-- ---- the lines

abbrev pub record_text : Record → List ℕ
record_text r = spelled (record_words r)

abbrev pub record_texts : Message → List (List ℕ)
record_texts m = map record_text m.answers ++ (map record_text m.authorities ++ map record_text m.additionals)

-- a line of a script; a rule that tells a message has the records that it counts behind it
abbrev pub script_lines : ScriptLine → List (List ℕ)
script_lines (Reply ip protocol name type delay (Ok m)) = spelled (reply_words ip protocol name type delay m (length m.answers) (length m.authorities) (length m.additionals)) ∷ record_texts m
script_lines (Reply ip protocol name type delay (Err e)) = spelled (failed_words ip protocol name type delay e) ∷ []
script_lines (Connect ip protocol delay error) = spelled (connect_words ip protocol delay error) ∷ []
script_lines (Refuse ip protocol) = spelled (refuse_words ip protocol) ∷ []

abbrev pub root_line : IpAddr → List ℕ
root_line ip = spelled (root_words ip)

abbrev pub option_line : OptionLine → List ℕ
option_line o = spelled (option_words o)

abbrev pub question_line : Question → List ℕ
question_line q = spelled (question_words q)

abbrev pub turn_line : Turn → List ℕ
turn_line t = spelled (turn_words t)

-- ---- what lines may say

pub record IsSoa (soa : Soa) : Type 0 where
  pub mname : IsFullName soa.mname
  pub rname : IsFullName soa.rname
  pub serial : soa.serial ≤ 4294967295
  pub refresh : soa.refresh ≤ 4294967295
  pub retry : soa.retry ≤ 4294967295
  pub expire : soa.expire ≤ 4294967295
  pub minimum : soa.minimum ≤ 4294967295

-- the data of a record; bytes are 65,535 at most
abbrev pub IsData : RData → Type 0
IsData (A a) = IsIpv4Addr a
IsData (AAAA a) = IsIpv6Addr a
IsData (NS target) = IsFullName target
IsData (CNAME target) = IsFullName target
IsData (SOA soa) = IsSoa soa
IsData (RRSIG covered rest) = IsType covered × AreBytes rest
IsData (Opaque bytes) = AreBytes bytes

pub record IsRecord (r : Record) : Type 0 where
  pub name : IsFullName r.name
  pub life : r.ttl ≤ 4294967295
  pub class : IsClass r.dns_class
  pub type : IsType r.record_type
  pub told : IsData r.rdata

-- UDP or TCP
abbrev pub IsTransport : Protocol → Type 0
IsTransport p = (p ≡ Udp) ⊎ (p ≡ Tcp)

-- how many polls at most find nothing yet
abbrev pub most_delay : ℕ
most_delay = 1000000

-- an error that a connection or a question comes to: a fault of transport, a timeout, that there is no connection or that it is busy,
-- or that the name came back in another case
abbrev pub IsFailure : NetError → Type 0
IsFailure Busy = Unit {0}
IsFailure (Io kind) = Unit {0}
IsFailure Timeout = Unit {0}
IsFailure NoConnections = Unit {0}
IsFailure QueryCaseMismatch = Unit {0}
IsFailure _ = ⊥

-- a rule that tells a message
pub record IsRule (ip : IpAddr) (protocol : Protocol) (name : DomainName) (type : RecordType) (delay : ℕ) (m : Message) : Type 0 where
  pub address : IsAddress ip
  pub transport : IsTransport protocol
  pub named : IsFullName name
  pub typed : IsType type
  pub soon : delay ≤ most_delay
  pub query : m.query ≡ record { name = name; query_type = type; query_class = class_in }
  pub fine : IsCode m.response_code
  pub few_answers : length m.answers ≤ 65535
  pub few_authorities : length m.authorities ≤ 65535
  pub few_additionals : length m.additionals ≤ 65535
  pub answers : AllByRecursion IsRecord m.answers
  pub authorities : AllByRecursion IsRecord m.authorities
  pub additionals : AllByRecursion IsRecord m.additionals

-- a rule that tells an error
pub record IsFailedRule (ip : IpAddr) (protocol : Protocol) (name : DomainName) (type : RecordType) (delay : ℕ) (error : NetError) : Type 0 where
  pub address : IsAddress ip
  pub transport : IsTransport protocol
  pub named : IsFullName name
  pub typed : IsType type
  pub soon : delay ≤ most_delay
  pub failure : IsFailure error

-- what a connection comes to, which is its error or that it is there
pub record IsConnect (ip : IpAddr) (protocol : Protocol) (delay : ℕ) (error : Option NetError) : Type 0 where
  pub address : IsAddress ip
  pub transport : IsTransport protocol
  pub soon : delay ≤ most_delay
  pub failure : IfSome error IsFailure

abbrev pub IsScriptLine : ScriptLine → Type 0
IsScriptLine (Reply ip protocol name type delay (Ok m)) = IsRule ip protocol name type delay m
IsScriptLine (Reply ip protocol name type delay (Err e)) = IsFailedRule ip protocol name type delay e
IsScriptLine (Connect ip protocol delay error) = IsConnect ip protocol delay error
IsScriptLine (Refuse ip protocol) = IsAddress ip × IsTransport protocol

pub record IsQuestion (q : Question) : Type 0 where
  pub named : IsName q.query.name
  pub typed : IsType q.query.query_type
  pub class : q.query.query_class ≡ class_in

-- a turn of any question, also of one that there is not
abbrev pub IsTurn : Turn → Type 0
IsTurn t = (t.question ≤ 4294967295) × (t.moment < 4611686018427387904)

-- ---- option lines

-- seconds of 32 bits, the least first
pub record IsBounds (b : Bounds) : Type 0 where
  pub ordered : b.least ≤ b.most
  pub wide : b.most ≤ 4294967295

abbrev pub IsOption : OptionLine → Type 0
IsOption (ResponseCacheSize size) = size ≤ 4194304
IsOption (RecursionLimit most) = most ≤ 255
IsOption (NsRecursionLimit most) = most ≤ 255
IsOption (AllowAnswers nets) = AllByRecursion IsNet nets
IsOption (DenyAnswers nets) = AllByRecursion IsNet nets
IsOption (AllowServer nets) = AllByRecursion IsNet nets
IsOption (DenyServer nets) = AllByRecursion IsNet nets
IsOption (AvoidLocalUdpPorts ports) = ArePorts 0 ports
IsOption (PositiveTtl b) = IsBounds b
IsOption (NegativeTtl b) = IsBounds b
IsOption (CaseRandomization on) = Unit {0}
IsOption (EdnsPayloadLen bytes) = bytes ≤ 65535
IsOption (FirstDelays delays) = AreFirstDelays delays

-- the place of an option in the order of all options of the format, from 1
abbrev pub option_rank : OptionLine → ℕ
option_rank (ResponseCacheSize size) = 2
option_rank (RecursionLimit most) = 3
option_rank (NsRecursionLimit most) = 4
option_rank (AllowAnswers nets) = 5
option_rank (DenyAnswers nets) = 6
option_rank (AllowServer nets) = 7
option_rank (DenyServer nets) = 8
option_rank (AvoidLocalUdpPorts ports) = 9
option_rank (PositiveTtl b) = 10
option_rank (NegativeTtl b) = 11
option_rank (CaseRandomization on) = 12
option_rank (EdnsPayloadLen bytes) = 14
option_rank (FirstDelays delays) = 16

-- the lines stand in the order of the options, none of them twice, each behind this rank
abbrev pub RiseAbove : ℕ → List OptionLine → Type 0
RiseAbove low [] = Unit {0}
RiseAbove low (o ∷ os) = (low < option_rank o) × RiseAbove (option_rank o) os

-- the rank of the last line, and this one where there is none
abbrev pub last_rank : ℕ → List OptionLine → ℕ
last_rank low [] = low
last_rank low (o ∷ os) = last_rank (option_rank o) os

-- the options that a recursor has where no line says otherwise
abbrev pub standard_options : RecursorOptions
standard_options = record {
  response_cache_size = 1048576;
  recursion_limit = 24;
  ns_recursion_limit = 24;
  allow_answers = [];
  deny_answers = [];
  allow_server = [];
  deny_server = special_nets;
  avoid_local_udp_ports = [];
  cache_policy = record { general = one_day; own = [] };
  case_randomization = false;
  edns_payload_len = 1232;
  first_delays = 1 ∷ [];
}

-- other bounds of positive answers, the same for every type
abbrev pub with_positive : TtlTable → Bounds → TtlTable
with_positive policy b = record { general = record policy.general { positive_min = b.least; positive_max = b.most }; own = [] }

-- other bounds of negative answers, the same for every type
abbrev pub with_negative : TtlTable → Bounds → TtlTable
with_negative policy b = record { general = record policy.general { negative_min = b.least; negative_max = b.most }; own = [] }

-- what a line says takes the place of what was, whole
abbrev pub changed : RecursorOptions → OptionLine → RecursorOptions
changed options (ResponseCacheSize size) = record options { response_cache_size = size }
changed options (RecursionLimit most) = record options { recursion_limit = most }
changed options (NsRecursionLimit most) = record options { ns_recursion_limit = most }
changed options (AllowAnswers nets) = record options { allow_answers = nets }
changed options (DenyAnswers nets) = record options { deny_answers = nets }
changed options (AllowServer nets) = record options { allow_server = nets }
changed options (DenyServer nets) = record options { deny_server = nets }
changed options (AvoidLocalUdpPorts ports) = record options { avoid_local_udp_ports = ports }
changed options (PositiveTtl b) = record options { cache_policy = with_positive options.cache_policy b }
changed options (NegativeTtl b) = record options { cache_policy = with_negative options.cache_policy b }
changed options (CaseRandomization on) = record options { case_randomization = on }
changed options (EdnsPayloadLen bytes) = record options { edns_payload_len = bytes }
changed options (FirstDelays delays) = record options { first_delays = delays }

-- the same of several lines, one after the other
abbrev pub changed_by : RecursorOptions → List OptionLine → RecursorOptions
changed_by options [] = options
changed_by options (o ∷ os) = changed_by (changed options o) os

-- the options that these lines say
abbrev pub options_with : List OptionLine → RecursorOptions
options_with written = changed_by standard_options written
