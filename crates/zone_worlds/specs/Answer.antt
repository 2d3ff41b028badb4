-- What a world answers to a question, whoever is asked.
use Rattle.std.specs.Prelude.{◌≡◌, ◌==◌, false, List, [], ◌∷◌, ◌++◌, length, filter, if◌then◌else◌, Option, Some, None}
use Rattle.std.specs.List.{list_any}
use Rattle.dns_core.specs.Name.{DomainName, same_names}
use Rattle.dns_core.specs.declared.message.Query.{Query}
use Rattle.dns_core.specs.declared.record.Record.{Record}
use Rattle.resolution.specs.Records.{cname_target}
use Rattle.resolution.specs.Following.{is_owned}
use Rattle.resolution.specs.Answering.{with_name}
use Rattle.zone_rules.specs.Tree.{zone_of, exists_in}
use Rattle.zone_rules.specs.Choosing.{alias_in}
use Rattle.zone_rules.specs.declared.world.World.{World}
use Rattle.zone_rules.specs.declared.world.WorldAnswer.{WorldAnswer}
use Rattle.zone_rules.specs.declared.world.WorldAnswer.TheVariants.{Records, NxDomain, NoData}

-- the alias of a question's name, in the deepest zone at or above it, for DS at or above the base name; a question for CNAME asks for the alias itself
abbrev pub alias_for : World → Query → Option Record
alias_for w query = if query.query_type.code == 5 then None else elim (zone_of w query) [ None ↦ None | Some z ↦ alias_in z query.name ]

-- the next alias on the way, unless the name was met
abbrev pub next_alias_for : World → Query → List DomainName → DomainName → Option Record
next_alias_for w query met n = if list_any (same_names n) met then None else alias_for w (with_name n query)

-- These aliases lead from a name on, after names that were met, to a last name, which has none. No name on the way repeats.
pub data Leads (w : World) (query : Query) : List DomainName → DomainName → List Record → List DomainName → DomainName → Type 0 where
  arrives : {met : List DomainName} {n : DomainName} → list_any (same_names n) met ≡ false → alias_for w (with_name n query) ≡ None → Leads w query met n [] (met ++ n ∷ []) n
  goes_on : {met names : List DomainName} {n t last : DomainName} {c : Record} {cs : List Record}
      → list_any (same_names n) met ≡ false → alias_for w (with_name n query) ≡ Some c → cname_target c ≡ Some t
      → Leads w query (met ++ n ∷ []) t cs names last → Leads w query met n (c ∷ cs) names last

-- the aliases of a question lead nowhere: a name repeats
abbrev pub NoWay : World → Query → List DomainName → DomainName → Type 0
NoWay w query met n = (cs : List Record) (names : List DomainName) (last : DomainName) → Leads w query met n cs names last → ⊥

-- what a zone owns of the question
abbrev pub data_of : List Record → WorldAnswer
data_of rs = if length rs == 0 then NoData else Records rs

-- the answer at a name without an alias: the records of the very type, and a question for ANY asks for no other type
abbrev pub found : World → Query → WorldAnswer
found w query = if exists_in w query.name then elim (zone_of w query) [ None ↦ NoData | Some z ↦ data_of (filter (is_owned query.query_type query.name) z.records) ] else NxDomain

-- the aliases that led there, followed by the records; a negative is that of the last name (RFC 2308 section 2)
abbrev pub after : List Record → WorldAnswer → WorldAnswer
after cs (Records rs) = Records (cs ++ rs)
after cs NxDomain = NxDomain
after cs NoData = NoData

-- The world's answer to a question: that at the end of its aliases, none where they do not end.
pub data Answers (w : World) (query : Query) : Option WorldAnswer → Type 0 where
  ends : {cs : List Record} {names : List DomainName} {last : DomainName} → Leads w query [] query.name cs names last → Answers w query (Some (after cs (found w (with_name last query))))
  never_ends : NoWay w query [] query.name → Answers w query None
