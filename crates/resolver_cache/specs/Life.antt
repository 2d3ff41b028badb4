-- How long a response is kept (RFC 1035 section 3.2.1, RFC 2181 section 8, RFC 2308 section 5).
use Rattle.std.specs.Prelude.{ℕ, ◌+◌, ◌-◌, ◌*◌, ◌/◌, ◌^◌, min, max, List, [], ◌∷◌, ◌++◌, fold, Option, Some, None, Result, Ok, Err}
use Rattle.std.specs.Option.{option_map}
use Rattle.dns_core.specs.NetError.{negative_data}
use Rattle.dns_core.specs.declared.codes.RecordType.{RecordType}
use Rattle.dns_core.specs.declared.message.Message.{Message}
use Rattle.dns_core.specs.declared.net_error.NetError.{NetError}
use Rattle.dns_core.specs.declared.record.Record.{Record}
use Rattle.dns_core.specs.declared.record.RData.TheVariants.{SOA}
use Rattle.resolver_settings.specs.Ttl.{TtlTable, bounds_of}
use Rattle.resolver_settings.specs.declared.ttl.TtlBounds.{TtlBounds}

-- all records, section by section
abbrev pub records : Message → List Record
records m = m.answers ++ m.authorities ++ m.additionals

-- the least TTL, 0 without records
abbrev pub least_ttl : List Record → ℕ
least_ttl [] = 0
least_ttl (r ∷ rs) = fold (λ n s. min n s.ttl) r.ttl rs

-- the least TTL so far, with one record more
abbrev pub lesser : Option ℕ → Record → Option ℕ
lesser None r = Some r.ttl
lesser (Some n) r = Some (min n r.ttl)

abbrev pub clamp : ℕ → ℕ → ℕ → ℕ
clamp least most n = max least (min most n)

-- the TTL of an SOA or its minimum, the lesser (RFC 2308 section 5)
abbrev pub soa_life : Record → ℕ
soa_life r = elim (r.rdata) [ SOA s ↦ min r.ttl s.minimum | _ ↦ r.ttl ]

-- that, within the bounds; without an SOA the least that they allow
abbrev pub negative_life : TtlBounds → Option Record → ℕ
negative_life b None = b.negative_min
negative_life b (Some r) = clamp b.negative_min b.negative_max (soa_life r)

abbrev pub positive_life : TtlBounds → Message → ℕ
positive_life b m = clamp b.positive_min b.positive_max (least_ttl (records m))

-- The seconds for which a response to a question of a type is kept. An error has none, but for one that says that there are no such records.
abbrev pub life_of : TtlTable → RecordType → Result Message NetError → Option ℕ
life_of config t (Ok m) = Some (positive_life (bounds_of config t) m)
life_of config t (Err e) = option_map (λ n. negative_life (bounds_of config t) n.soa) (negative_data e)

-- so many seconds after a moment in microseconds, or the last moment of 64 bits
abbrev pub moment_after : ℕ → ℕ → ℕ
moment_after now life = min (now + life * 1000000) (2 ^ 64 - 1)

-- the whole seconds from a moment to a later one, in microseconds; 0 to an earlier one
abbrev pub seconds_between : ℕ → ℕ → ℕ
seconds_between written now = (now - written) / 1000000
