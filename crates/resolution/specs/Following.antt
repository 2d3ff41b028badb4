-- Where the aliases inside a response lead (RFC 1034 section 3.6.2).
use Rattle.std.specs.Prelude.{ℕ, zero, suc, Bool, ◌&&◌, ◌||◌, ◌==◌, List, [], ◌∷◌, ◌++◌, length, if◌then◌else◌, Option, Some, None}
use Rattle.std.specs.List.{list_any}
use Rattle.dns_core.specs.Name.{DomainName, same_names}
use Rattle.dns_core.specs.declared.codes.RecordType.{RecordType}
use Rattle.dns_core.specs.declared.message.Query.{Query}
use Rattle.dns_core.specs.declared.message.Message.{Message}
use Rattle.dns_core.specs.declared.record.Record.{Record}
use Rattle.resolution.specs.Records.{cname_target}
use Rattle.resolution.specs.declared.following.Follow.{Follow}
use Rattle.resolution.specs.declared.following.Follow.TheVariants.{Done, Restart}

-- the record is of the type, at the name
abbrev pub is_owned : RecordType → DomainName → Record → Bool
is_owned t n r = same_names r.name n && r.record_type.code == t.code

-- the name owns a record of the type
abbrev pub owns : List Record → RecordType → DomainName → Bool
owns answers t n = list_any (is_owned t n) answers

-- the target of a CNAME at the name
abbrev pub alias_of : DomainName → Record → Option DomainName
alias_of n r = if same_names r.name n then cname_target r else None

-- the target of the first CNAME at the name
abbrev pub alias_at : List Record → DomainName → Option DomainName
alias_at [] n = None
alias_at (r ∷ rs) n = elim (alias_of n r) [ None ↦ alias_at rs n | Some target ↦ Some target ]

-- From a name on, after the names that were met: to the target of its first CNAME, until a name owns the asked type, a name repeats, or nothing is said of a name.
-- A name is met once, so one step more than there are answers is enough.
abbrev pub follow_from : ℕ → List Record → RecordType → List DomainName → DomainName → Follow
follow_from zero answers t met n = Done
follow_from (suc steps) answers t met n =
    if owns answers t n then Done else
    elim (alias_at answers n) [
      | None ↦ Restart n
      | Some target ↦
          (if list_any (same_names target) (met ++ n ∷ []) then Done else follow_from steps answers t (met ++ n ∷ []) target)
    ]

-- A question for CNAME or for all types, or one whose name has no CNAME among the answers, is followed no further.
abbrev pub follow : Message → Query → Follow
follow kept query =
    if query.query_type.code == 5 || query.query_type.code == 255 then Done else
    elim (alias_at kept.answers query.name) [ None ↦ Done | Some target ↦ follow_from (suc (length kept.answers)) kept.answers query.query_type [] query.name ]
