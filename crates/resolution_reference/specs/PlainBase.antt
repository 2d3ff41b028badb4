-- What an entry answers at a moment, as a plain program tests it.
use Rattle.std.specs.Prelude.{ℕ, ◌≤◌, ◌⊎◌, ◌+◌, ◌*◌}
use Rattle.dns_core.specs.Name.{DomainName}
use Rattle.dns_core.specs.Log.{Log}
use Rattle.dns_core.specs.declared.message.Query.{Query}
use Rattle.dns_core.specs.declared.message.Message.{Message}
use Rattle.resolver_settings.specs.Ttl.{bounds_of}
use Rattle.recursor_types.specs.declared.policy.Policy.{Policy}
use Rattle.resolution.specs.Life.{positive_life}
use Rattle.resolution.specs.Answering.{Base}
use Rattle.resolution_reference.specs.Plain.{kept}
use Rattle.resolution_reference.specs.declared.kept.kept.Kept.{Kept}
use Rattle.resolution_reference.specs.declared.setting.Setting.{Setting}
use Rattle.resolution.specs.declared.verdict.Verdict.TheVariants.{Pos}

-- Entry `entry` tells an answer to `query`, by a server of the zone `zone`, that is fresh at `asked_at`.
pub record IsBase (policy : Policy) (log : Log) (asked_at : ℕ) (query : Query) (entry : ℕ) (zone : DomainName) : Type 0 where
  pub answer : Message
  pub base : Base policy log asked_at query entry zone (Pos answer)

-- the seconds for which what is left of a message counts, as an answer to a question of the type
abbrev pub life_of : Setting → ℕ → Kept → ℕ
life_of s t k = positive_life (bounds_of s.policy.now.ttl_bounds (record { code = t })) (kept k)

-- It was told at or after `asked_at`, or `asked_at` is still in its life, in microseconds.
abbrev pub IsFreshFor : ℕ → ℕ → ℕ → Type 0
IsFreshFor asked_at moment life = (asked_at ≤ moment) ⊎ (asked_at ≤ moment + 1000000 * life)
