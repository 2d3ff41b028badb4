-- What an address tells for a question (RFC 1034 section 4.3.2).
use Rattle.std.specs.Prelude.{◌≡◌, ℕ, Bool, true, false, ◌||◌, ◌==◌, List, [], ◌∷◌, ◌++◌, length, if◌then◌else◌, Option, Some, None}
use Rattle.std.specs.declared.net.IpAddr.{IpAddr}
use Rattle.dns_core.specs.Name.{DomainName}
use Rattle.dns_core.specs.declared.message.Query.{Query}
use Rattle.dns_core.specs.declared.message.Message.{Message}
use Rattle.dns_core.specs.declared.record.Record.{Record}
use Rattle.resolution.specs.Names.{walk}
use Rattle.resolution.specs.Records.{cname_target}
use Rattle.zone_rules.specs.Tree.{nearest, first_cut, host_of, zone_among, exists_in}
use Rattle.zone_rules.specs.Choosing.{owned, alias_in, soa_of, servers, server_addresses}
use Rattle.zone_rules.specs.Aliases.{next_alias}
use Rattle.zone_rules.specs.declared.world.Zone.{Zone}
use Rattle.zone_rules.specs.declared.world.World.{World}

-- The deepest zone at or above the question's name that the address serves; for DS the name itself does not count, since its records are the parent's (RFC 4035 section 3.1.4.1).
abbrev pub zone_asked : World → IpAddr → Query → Option Zone
zone_asked w ip query = if (query.name).fqdn then elim (host_of w ip) [ None ↦ None | Some h ↦ nearest (λ labels. zone_among w.zones h.zones labels) (walk query).labels ] else None

-- the highest zone of the world below it, on the way to that name
abbrev pub child_of : World → Zone → Query → Option Zone
child_of w z query = first_cut w.zones (length (z.apex).labels) (walk query).labels

abbrev pub reply : Query → ℕ → Bool → List Record → List Record → List Record → Message
reply q code authoritative answers authorities additionals = record {
  query = q;
  response_code = record { code = code };
  authoritative = authoritative;
  truncation = false;
  answers = answers;
  authorities = authorities;
  additionals = additionals;
}

-- REFUSED, and nothing else
abbrev pub refusal : Query → Message
refusal query = reply query 5 false [] [] []

-- the child's NS records, with the addresses that it holds for their targets
abbrev pub referral : Zone → Query → Message
referral child query = reply query 0 false [] (servers child child.apex) (server_addresses child child.apex)

-- the zone's SOA record with a code, NXDOMAIN or NOERROR (RFC 2308 section 2)
abbrev pub negative : Zone → Query → ℕ → Message
negative z query code = reply query code true [] (soa_of z) []

-- an answer of the zone itself; one for NS has the addresses of its targets
abbrev pub positive : Zone → Query → List Record → Message
positive z query answers = reply query 0 true answers [] (if query.query_type.code == 2 then server_addresses z query.name else [])

-- the alias by which the zone answers: a question for CNAME or for all types asks for the alias itself
abbrev pub alias_of : Zone → Query → Option Record
alias_of z query = if query.query_type.code == 5 || query.query_type.code == 255 then None else alias_in z query.name

-- These aliases of the zone lead from a name on, after names that were met, to a last target.
pub data Follows (z : Zone) : List DomainName → DomainName → List Record → DomainName → Type 0 where
  ends : {met : List DomainName} {n : DomainName} → next_alias z met n ≡ None → Follows z met n [] n
  leads : {met : List DomainName} {n t last : DomainName} {c : Record} {cs : List Record}
      → next_alias z met n ≡ Some c → cname_target c ≡ Some t → Follows z (met ++ n ∷ []) t cs last → Follows z met n (c ∷ cs) last

-- The zone answers a question whose name has an alias so: by the alias alone, or by the chain of its aliases and the records of the type at the last target.
pub data AnswersByAlias (z : Zone) (query : Query) (chain : Bool) : List Record → Type 0 where
  alone : {c : Record} → chain ≡ false → alias_in z query.name ≡ Some c → AnswersByAlias z query chain (c ∷ [])
  chained : {cs : List Record} {last : DomainName} → chain ≡ true → Follows z [] query.name cs last → AnswersByAlias z query chain (cs ++ owned z last query.query_type)

-- a message that answers so
pub data IsByAlias (z : Zone) (query : Query) (chain : Bool) : Message → Type 0 where
  is_by_alias : {rs : List Record} → AnswersByAlias z query chain rs → IsByAlias z query chain (reply query 0 true rs [] [])

-- What the zone answers of itself, by the first case that holds: the name does not exist, it has an alias, it owns the type, or it does not.
pub data Replies (w : World) (z : Zone) (query : Query) : Message → Type 0 where
  denies : exists_in w query.name ≡ false → Replies w z query (negative z query 3)
  by_alias : {c : Record} {m : Message} → exists_in w query.name ≡ true → alias_of z query ≡ Some c → IsByAlias z query w.chain m → Replies w z query m
  gives : exists_in w query.name ≡ true → alias_of z query ≡ None → (length (owned z query.name query.query_type) == 0) ≡ false → Replies w z query (positive z query (owned z query.name query.query_type))
  lacks : exists_in w query.name ≡ true → alias_of z query ≡ None → (length (owned z query.name query.query_type) == 0) ≡ true → Replies w z query (negative z query 0)

-- The address tells this message for the question.
pub data Tells (w : World) (ip : IpAddr) (query : Query) : Message → Type 0 where
  refuses : zone_asked w ip query ≡ None → Tells w ip query (refusal query)
  refers : {z child : Zone} → zone_asked w ip query ≡ Some z → child_of w z query ≡ Some child → Tells w ip query (referral child query)
  answers : {z : Zone} {m : Message} → zone_asked w ip query ≡ Some z → child_of w z query ≡ None → Replies w z query m → Tells w ip query m
