-- How long a response counts (RFC 1034 section 3.6, RFC 2308 section 5).
use Rattle.std.specs.Prelude.{ℕ, ◌+◌, ◌*◌, ◌≤◌, ◌⊎◌, min, max, List, [], ◌∷◌, fold, Option, Some, None, IsSomeAnd}
use Rattle.dns_core.specs.declared.codes.RecordType.{RecordType}
use Rattle.dns_core.specs.declared.message.Query.{Query}
use Rattle.dns_core.specs.declared.message.Message.{Message}
use Rattle.dns_core.specs.declared.record.Record.{Record}
use Rattle.dns_core.specs.declared.record.RData.TheVariants.{SOA}
use Rattle.resolution.specs.Records.{records}
use Rattle.resolver_settings.specs.Ttl.{bounds_of}
use Rattle.resolver_settings.specs.declared.ttl.TtlBounds.{TtlBounds}
use Rattle.recursor_types.specs.declared.policy.Policy.{Policy}
use Rattle.resolution.specs.declared.verdict.Verdict.{Verdict}
use Rattle.resolution.specs.declared.verdict.Verdict.TheVariants.{Pos, Neg, Made}
use Rattle.resolution.specs.declared.verdict.Cause.TheVariants.{Filter, Zone}

abbrev pub clamp : ℕ → ℕ → ℕ → ℕ
clamp least most n = max least (min most n)

-- the least TTL, 0 without records
abbrev pub least_ttl : List Record → ℕ
least_ttl [] = 0
least_ttl (r ∷ rs) = fold (λ n s. min n s.ttl) r.ttl rs

-- the TTL of an SOA or its minimum, the lesser (RFC 2308 section 5)
abbrev pub soa_life : Record → ℕ
soa_life r = elim (r.rdata) [ SOA s ↦ min r.ttl s.minimum | _ ↦ r.ttl ]

-- that, within the bounds; without an SOA the least that they allow
abbrev pub negative_life : TtlBounds → Option Record → ℕ
negative_life b None = b.negative_min
negative_life b (Some r) = clamp b.negative_min b.negative_max (soa_life r)

abbrev pub positive_life : TtlBounds → Message → ℕ
positive_life b m = clamp b.positive_min b.positive_max (least_ttl (records m))

-- the seconds of a verdict; a denial that a zone made has none
abbrev pub life_in_seconds : Policy → RecordType → Verdict → Option ℕ
life_in_seconds policy t (Pos k) = Some (positive_life (bounds_of policy.ttl_bounds t) k)
life_in_seconds policy t (Neg n) = Some (negative_life (bounds_of policy.ttl_bounds t) n.soa)
life_in_seconds policy t (Made Filter) = Some (negative_life (bounds_of policy.ttl_bounds t) None)
life_in_seconds policy t (Made Zone) = None

-- It was told at or after `asked_at`, or `asked_at` is still in its life. Moments are in microseconds.
abbrev pub Fresh : Policy → ℕ → ℕ → Query → Verdict → Type 0
Fresh policy asked_at moment query verdict = (asked_at ≤ moment) ⊎ IsSomeAnd (life_in_seconds policy query.query_type verdict) (λ life. asked_at ≤ moment + 1000000 * life)
