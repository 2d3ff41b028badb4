-- What a response counts for, seen from a zone of its teller.
use Rattle.std.specs.Prelude.{Bool, false, not, ◌&&◌, ◌||◌, ◌==◌, length, filter, if◌then◌else◌, Option, Some, None}
use Rattle.std.specs.declared.net.ip_addr.IpAddr.{IpAddr}
use Rattle.dns_core.specs.Name.{DomainName}
use Rattle.dns_core.specs.declared.message.Query.{Query}
use Rattle.dns_core.specs.declared.message.Message.{Message}
use Rattle.dns_core.specs.declared.record.Record.{Record}
use Rattle.dns_core.specs.declared.net_error.NoRecords.{NoRecords}
use Rattle.dns_core.specs.declared.log.ToldOutcome.{ToldOutcome}
use Rattle.resolver_settings.specs.Access.{denies}
use Rattle.resolution.specs.Names.{is_above}
use Rattle.resolution.specs.Records.{address, only}
use Rattle.resolution.specs.Class.{class_of}
use Rattle.recursor_types.specs.declared.policy.Policy.{Policy}
use Rattle.resolution.specs.declared.class.Class.{Class}
use Rattle.resolution.specs.declared.class.Class.TheVariants.{Error, Code, Truncated, Negative, Foreign, Positive}
use Rattle.resolution.specs.declared.verdict.Verdict.{Verdict}
use Rattle.resolution.specs.declared.verdict.Verdict.TheVariants.{Pos, Neg, Made}
use Rattle.resolution.specs.declared.verdict.Cause.TheVariants.{Filter, Zone}

-- the filter that denies nothing
abbrev pub allows_all : IpAddr → Bool
allows_all ip = false

-- the filter denies the address that the record holds
abbrev pub holds_denied : (IpAddr → Bool) → Record → Bool
holds_denied denied r = elim (address r) [ None ↦ false | Some ip ↦ denied ip ]

-- without the records that hold a denied address
abbrev pub without_denied : (IpAddr → Bool) → Message → Message
without_denied denied m = only (λ r. not (holds_denied denied r)) m

-- the record lies in the zone
abbrev pub is_in_bailiwick : DomainName → Record → Bool
is_in_bailiwick zone r = is_above zone r.name

-- without the records outside the zone, which its servers cannot vouch for
abbrev pub in_bailiwick : DomainName → Message → Message
in_bailiwick zone m = only (is_in_bailiwick zone) m

-- What was left out emptied the answers, or the authorities of a message that has no answers left.
abbrev pub is_emptied : Message → Message → Bool
is_emptied old new =
    (not (length old.answers == 0) && length new.answers == 0)
    || (length new.answers == 0 && not (length old.authorities == 0) && length new.authorities == 0)

-- the filter leaves nothing of the answer
abbrev pub is_all_denied : (IpAddr → Bool) → Message → Bool
is_all_denied denied m = is_emptied m (without_denied denied m)

-- An answer counts with what the filter and then the zone leave of it; where one of the two leaves nothing, it counts as a denial that this one made.
abbrev pub verdict_of_message : (IpAddr → Bool) → Message → DomainName → Verdict
verdict_of_message denied m zone =
    if is_all_denied denied m then Made Filter else (
    if is_emptied (without_denied denied m) (in_bailiwick zone (without_denied denied m)) then Made Zone else
    Pos (in_bailiwick zone (without_denied denied m)))

-- a record, where it lies in the zone
abbrev pub if_in_bailiwick : DomainName → Option Record → Option Record
if_in_bailiwick zone None = None
if_in_bailiwick zone (Some r) = if is_in_bailiwick zone r then Some r else None

-- a negative without an SOA and authorities outside the zone
abbrev pub scrub_negative : DomainName → NoRecords → NoRecords
scrub_negative zone n = record n { soa = if_in_bailiwick zone n.soa; authorities = filter (is_in_bailiwick zone) n.authorities }

-- Answers and negatives count; nothing else does.
abbrev pub verdict_of_class : (IpAddr → Bool) → Class → DomainName → Option Verdict
verdict_of_class denied (Positive m) zone = Some (verdict_of_message denied m zone)
verdict_of_class denied (Negative n) zone = Some (Neg (scrub_negative zone n))
verdict_of_class denied (Error e) zone = None
verdict_of_class denied (Code c) zone = None
verdict_of_class denied Truncated zone = None
verdict_of_class denied (Foreign r) zone = None

abbrev pub verdict_of_told : (IpAddr → Bool) → Option Class → DomainName → Option Verdict
verdict_of_told denied None zone = None
verdict_of_told denied (Some class) zone = verdict_of_class denied class zone

-- what was told for a question counts for, seen from a zone
abbrev pub verdict : Policy → ToldOutcome → Query → DomainName → Option Verdict
verdict policy outcome query zone = verdict_of_told (denies policy.answer_filter) (class_of outcome query) zone
