-- Tests of records and messages, as a plain program makes them.
use Rattle.std.specs.Prelude.{ℕ, min, Option, Bool, true, false, not, ◌&&◌, ◌||◌, ◌==◌, List, Some, None}
use Rattle.std.specs.List.{list_any}
use Rattle.std.specs.declared.net.ip_addr.IpAddr.{IpAddr}
use Rattle.dns_core.specs.Name.{DomainName, same_names}
use Rattle.dns_core.specs.declared.message.Query.{Query}
use Rattle.dns_core.specs.declared.message.Message.{Message}
use Rattle.dns_core.specs.declared.record.Record.{Record}
use Rattle.resolver_settings.specs.Access.{Access, denies}
use Rattle.resolution.specs.Records.{address, records}
use Rattle.resolution.specs.Class.{has_no_data_for, is_foreign}
use Rattle.resolution.specs.Verdict.{holds_denied, is_in_bailiwick, without_denied, in_bailiwick, is_emptied, is_all_denied}
use Rattle.resolution.specs.Serving.{target_below}
use Rattle.resolution.specs.Ending.{same_ip}
use Rattle.resolution_reference.specs.declared.kept.kept.Kept.{Kept}

-- the fully qualified name with these labels
abbrev pub apex : List (List ℕ) → DomainName
apex labels = record { labels = labels; fqdn = true }

-- the question for it, of a type and a class
abbrev pub asks : List (List ℕ) → ℕ → ℕ → Query
asks labels t class = record { name = apex labels; query_type = record { code = t }; query_class = record { code = class } }

-- the address is one of these
abbrev pub among : List IpAddr → IpAddr → Bool
among ips ip = list_any (same_ip ip) ips

-- the record holds the address
abbrev pub holds : IpAddr → Record → Bool
holds ip r = elim (address r) [ None ↦ false | Some held ↦ same_ip ip held ]

-- the record is left by the filter and by the zone
abbrev pub passes : Kept → Record → Bool
passes k r = not (holds_denied (denies k.denied.now) r) && is_in_bailiwick (apex k.zone.now) r

-- what the filter and the zone leave of a message
abbrev pub left_of : Access → List (List ℕ) → Message → Message
left_of denied zone m = in_bailiwick (apex zone) (without_denied (denies denied) m)

abbrev pub kept : Kept → Message
kept k = left_of k.denied.now k.zone.now k.message.now

-- something was there of the answers and nothing is left, or nothing is left of them and of the authorities that were there
abbrev pub nothing_is_left : Bool → Bool → Bool → Bool → Bool
nothing_is_left answers answers_left authorities authorities_left = (answers && not answers_left) || (not answers_left && authorities && not authorities_left)

-- something is left of the answers, or of the authorities of a message without answers
abbrev pub counts_of : Access → List (List ℕ) → Message → Bool
counts_of denied zone m = not (is_all_denied (denies denied) m) && not (is_emptied (without_denied (denies denied) m) (left_of denied zone m))

abbrev pub counts : Kept → Bool
counts k = counts_of k.denied.now k.zone.now k.message.now

-- the record names the target as a server of a zone with this base
abbrev pub names_target : DomainName → DomainName → Record → Bool
names_target zone name r = elim (target_below zone r) [ None ↦ false | Some t ↦ same_names name t ]

-- the record holds the address, under the name of a server that the delegation of a zone with this base names
abbrev pub holds_for : Message → DomainName → IpAddr → Record → Bool
holds_for delegation zone ip r = holds ip r && list_any (names_target zone r.name) (records delegation)

-- the filter leaves something of the answer, and the answers hold the address, which it allows
abbrev pub has_in_answers : Access → Message → IpAddr → Bool
has_in_answers denied m ip = (not (is_all_denied (denies denied) m) && not (denies denied ip)) && list_any (holds ip) m.answers

abbrev pub answers_with : Kept → IpAddr → Bool
answers_with k ip = has_in_answers k.denied.now k.message.now ip

-- the message is an answer to the question
abbrev pub is_answer : Query → Message → Bool
is_answer query m =
    (m.response_code.code == 0 || m.response_code.code == 3) && (not m.truncation && (not (has_no_data_for query m)
    && not (list_any (is_foreign query) m.answers || list_any (is_foreign query) m.authorities || list_any (is_foreign query) m.additionals)))

-- the least TTL so far, with one record more
abbrev pub lesser : Option ℕ → Record → Option ℕ
lesser None r = Some r.ttl
lesser (Some n) r = Some (min n r.ttl)
