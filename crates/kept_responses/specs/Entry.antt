-- Which entry is for a question, and when it is current.
use Rattle.std.specs.Prelude.{ℕ, Bool, ◌&&◌, ◌==◌, nat_le, List, Option, Some, None, find, if◌then◌else◌}
use Rattle.dns_core.specs.Name.{same_names}
use Rattle.dns_core.specs.declared.message.Query.{Query}
use Rattle.kept_responses.specs.declared.entry.Entry.{Entry}

-- the same type, class and name, the name without ASCII case (RFC 4343)
abbrev pub is_same_question : Query → Query → Bool
is_same_question a b =
    a.query_type.code == b.query_type.code && a.query_class.code == b.query_class.code && same_names a.name b.name

abbrev pub is_for : Query → Entry → Bool
is_for query e = is_same_question e.query query

-- at a moment that is not above its expiry
abbrev pub is_current : ℕ → Entry → Bool
is_current now e = nat_le now e.expiry

abbrev pub if_current : ℕ → Option Entry → Option Entry
if_current now None = None
if_current now (Some e) = if is_current now e then Some e else None

-- the entry for a question, where it is current
abbrev pub current_for : Query → ℕ → List Entry → Option Entry
current_for query now es = if_current now (find (is_for query) es)
