-- Names of the domain tree (RFC 1034 section 3.1), and questions.
use Rattle.std.specs.Prelude.{ℕ, Bool, true, ◌&&◌, ◌==◌, List, [], map, length, drop, if◌then◌else◌}
use Rattle.std.specs.List.{range_with_len}
use Rattle.dns_core.specs.Name.{DomainName, same_names, is_suffix, last_labels}
use Rattle.dns_core.specs.declared.message.Query.{Query}

abbrev pub root : DomainName
root = record { labels = []; fqdn = true }

abbrev pub is_root : DomainName → Bool
is_root n = n.fqdn && length n.labels == 0

-- the name without its first label; the root is its own base
abbrev pub base : DomainName → DomainName
base n = record { labels = drop 1 n.labels; fqdn = n.fqdn }

-- `zone` is at or above n: both are fully qualified, and the labels of `zone` are the last of n's
abbrev pub is_above : DomainName → DomainName → Bool
is_above zone n = zone.fqdn && n.fqdn && is_suffix zone.labels n.labels

-- the last labels of a name
abbrev pub last_name : ℕ → DomainName → DomainName
last_name k n = record { labels = last_labels k n.labels; fqdn = n.fqdn }

-- the names at which a walk to n looks for a cut: the last 1, 2, .. labels of n (RFC 1034 section 5.3.3)
abbrev pub candidates : DomainName → List DomainName
candidates n = map (λ k. record { labels = last_labels k n.labels; fqdn = n.fqdn }) (range_with_len 1 (length n.labels))

-- the name to which a question is walked: its own, and for DS the base name, since the parent has the DS records (RFC 4035 section 3.1.4.1)
abbrev pub walk : Query → DomainName
walk query = if query.query_type.code == 43 then base query.name else query.name

-- the same question, without ASCII case
abbrev pub same_query : Query → Query → Bool
same_query a b = same_names a.name b.name && a.query_type.code == b.query_type.code && a.query_class.code == b.query_class.code

-- the question for a name and a type, of class IN
abbrev pub question : DomainName → ℕ → Query
question n t = record { name = n; query_type = record { code = t }; query_class = record { code = 1 } }
