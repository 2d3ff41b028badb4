-- The texts of the errors that questions are answered with.
use Rattle.std.specs.Prelude.{ℕ, Bool, true, false, List, [], ◌∷◌, ◌++◌, length, codes, decimal, is_some, option_to_list}
use Rattle.std.specs.List.{flat_map}
use Rattle.dns_core.specs.NameText.{text_of}
use Rattle.dns_core.specs.declared.net_error.DnsError.TheVariants.{NoRecordsFound, ResponseCode}
use Rattle.dns_core.specs.declared.net_error.ForwardNsData.{ForwardNsData}
use Rattle.dns_core.specs.declared.net_error.NetError.{NetError}
use Rattle.dns_core.specs.declared.net_error.NetError.TheVariants as net
use Rattle.recursor_types.specs.declared.error.AuthorityData.{AuthorityData}
use Rattle.recursor_types.specs.declared.error.MessageKind.{MessageKind}
use Rattle.recursor_types.specs.declared.error.MessageKind.TheVariants.{NotQualified, NoRoots, ReversedTtl, FirstDelays}
use Rattle.recursor_types.specs.declared.error.WalkCause.{WalkCause}
use Rattle.recursor_types.specs.declared.error.WalkCause.TheVariants as cause
use Rattle.recursor_types.specs.declared.error.RecursorError.{RecursorError}
use Rattle.recursor_types.specs.declared.error.RecursorError.TheVariants.{MaxRecordLimitExceeded, Message, Msg, Negative, ForwardNS, Io, Net, Timeout, RecursionLimitExceeded, QueryBudgetExceeded, NoNameServer, NoMemory}
use Rattle.dns_core.specs.CodeTexts.{type_text, class_text, response_code_text}
use Rattle.text_lines.specs.Texts.{line_of, record_words, record_lines, flag_text}

-- the name of its variant
abbrev pub cause_text : WalkCause → List ℕ
cause_text cause.DepthLimit = codes "DepthLimit"
cause_text cause.Timeout = codes "Timeout"
cause_text cause.NoAddress = codes "NoAddress"
cause_text cause.Budget = codes "Budget"
cause_text cause.ZoneEntries = codes "ZoneEntries"
cause_text cause.Collision = codes "Collision"

-- what a connection or an exchange ended in
abbrev pub net_kind : NetError → List ℕ
net_kind net.Timeout = codes "Timeout"
net_kind net.NoConnections = codes "NoConnections"
net_kind net.Truncated = codes "Truncated"
net_kind net.QueryCaseMismatch = codes "QueryCaseMismatch"
net_kind (net.Dns (ResponseCode code)) = codes "Code"
net_kind (net.ForeignClassRecord name dns_class record_type) = codes "ForeignClassRecord"
net_kind (net.Dns (NoRecordsFound n)) = codes "NoRecords"
net_kind net.Busy = codes "Busy"
net_kind (net.Io kind) = codes "Io"
net_kind (net.Msg text) = codes "Msg"
net_kind net.NoMemory = codes "NoMemory"

-- what stands behind it
abbrev pub net_details : NetError → List (List ℕ)
net_details net.Timeout = []
net_details net.NoConnections = []
net_details net.Truncated = []
net_details net.QueryCaseMismatch = []
net_details (net.Dns (ResponseCode code)) = response_code_text code ∷ []
net_details (net.ForeignClassRecord name dns_class record_type) = text_of name ∷ class_text dns_class ∷ type_text record_type ∷ []
net_details (net.Dns (NoRecordsFound n)) = []
net_details net.Busy = []
net_details (net.Io kind) = []
net_details (net.Msg text) = []
net_details net.NoMemory = []

-- both in one row
abbrev pub net_words : NetError → List (List ℕ)
net_words error = net_kind error ∷ net_details error

-- it is one that a reply carries
abbrev pub has_net_words : NetError → Bool
has_net_words net.Timeout = true
has_net_words net.NoConnections = true
has_net_words net.Truncated = true
has_net_words net.QueryCaseMismatch = true
has_net_words (net.Dns (ResponseCode code)) = true
has_net_words (net.ForeignClassRecord name dns_class record_type) = true
has_net_words (net.Dns (NoRecordsFound n)) = false
has_net_words net.Busy = false
has_net_words (net.Io kind) = false
has_net_words (net.Msg text) = false
has_net_words net.NoMemory = false

-- the name of its variant
abbrev pub message_kind_text : MessageKind → List ℕ
message_kind_text NotQualified = codes "NotQualified"
message_kind_text NoRoots = codes "NoRoots"
message_kind_text ReversedTtl = codes "ReversedTtl"
message_kind_text FirstDelays = codes "FirstDelays"

-- the name of its variant
abbrev pub error_kind : RecursorError → List ℕ
error_kind (MaxRecordLimitExceeded count record_type) = codes "MaxRecordLimitExceeded"
error_kind (Message kind) = codes "Message"
error_kind (Msg text) = codes "Msg"
error_kind (Negative negative) = codes "Negative"
error_kind (ForwardNS forwards) = codes "ForwardNS"
error_kind (Io kind) = codes "Io"
error_kind (Net e) = codes "Net"
error_kind Timeout = codes "Timeout"
error_kind (RecursionLimitExceeded count) = codes "RecursionLimitExceeded"
error_kind QueryBudgetExceeded = codes "QueryBudgetExceeded"
error_kind (NoNameServer zone why) = codes "NoNameServer"
error_kind NoMemory = codes "NoMemory"

-- a negative response: its question, its two flags, and how many records follow
abbrev pub negative_words : AuthorityData → List (List ℕ)
negative_words n = text_of n.query.name ∷ type_text n.query.query_type ∷ flag_text n.no_records_found ∷ flag_text n.nx_domain ∷ flag_text (is_some n.soa) ∷ decimal (length n.authorities) ∷ []

-- what stands behind it
abbrev pub error_details : RecursorError → List (List ℕ)
error_details (MaxRecordLimitExceeded count record_type) = decimal count ∷ type_text record_type ∷ []
error_details (Message kind) = message_kind_text kind ∷ []
error_details (Msg text) = []
error_details (Negative n) = negative_words n
error_details (ForwardNS forwards) = decimal (length forwards) ∷ []
error_details (Io kind) = []
error_details (Net e) = net_words e
error_details Timeout = []
error_details (RecursionLimitExceeded count) = decimal count ∷ []
error_details QueryBudgetExceeded = []
error_details (NoNameServer zone why) = text_of zone ∷ cause_text why ∷ []
error_details NoMemory = []

-- the words of an error's line
abbrev pub error_words : RecursorError → List (List ℕ)
error_words error = error_kind error ∷ error_details error

-- an NS record with how many addresses are known for its target, and their lines
unfoldable pub forward_text : ForwardNsData → List ℕ
forward_text f = line_of (codes "ns" ∷ decimal (length f.glue) ∷ record_words f.ns) ++ record_lines f.glue

-- the lines that follow that of an error: the SOA and the authorities, or the NS records
abbrev pub error_tail : RecursorError → List ℕ
error_tail (Negative n) = record_lines (option_to_list n.soa) ++ record_lines n.authorities
error_tail (ForwardNS forwards) = flat_map forward_text forwards
error_tail (MaxRecordLimitExceeded count record_type) = []
error_tail (Message kind) = []
error_tail (Msg text) = []
error_tail (Io kind) = []
error_tail (Net e) = []
error_tail Timeout = []
error_tail (RecursionLimitExceeded count) = []
error_tail QueryBudgetExceeded = []
error_tail (NoNameServer zone why) = []
error_tail NoMemory = []

-- an error, its line and those that follow
unfoldable pub error_text : RecursorError → List ℕ
error_text error = line_of (error_words error) ++ error_tail error

-- the one that a reply carries
abbrev pub is_not_qualified : MessageKind → Bool
is_not_qualified NotQualified = true
is_not_qualified NoRoots = false
is_not_qualified ReversedTtl = false
is_not_qualified FirstDelays = false

-- it is one of those that a reply carries
abbrev pub has_words : RecursorError → Bool
has_words (MaxRecordLimitExceeded count record_type) = true
has_words (Message kind) = is_not_qualified kind
has_words (Msg text) = false
has_words (Negative n) = true
has_words (ForwardNS forwards) = true
has_words (Io kind) = false
has_words (Net e) = has_net_words e
has_words Timeout = false
has_words (RecursionLimitExceeded count) = true
has_words QueryBudgetExceeded = true
has_words (NoNameServer zone why) = true
has_words NoMemory = true
