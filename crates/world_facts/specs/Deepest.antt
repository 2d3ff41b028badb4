-- What is told at the end of a walk.
use Rattle.std.specs.Prelude.{◌≡◌, ℕ, ◌<◌, ◌≤◌, length, Some}
use Rattle.dns_core.specs.Name.{DomainName}
use Rattle.dns_core.specs.Log.{Log}
use Rattle.dns_core.specs.declared.message.Query.{Query}
use Rattle.dns_core.specs.declared.message.Message.{Message}
use Rattle.resolution.specs.Names.{last_name, walk}
use Rattle.recursor_types.specs.declared.policy.Policy.{Policy}
use Rattle.zone_rules.specs.Tree.{zone_of}
use Rattle.zone_rules.specs.declared.world.Zone.{Zone}
use Rattle.zone_rules.specs.declared.world.World.{World}
use Rattle.zone_worlds.specs.Telling.{Replies}
use Rattle.resolution.specs.Walking.{NoCutSeen}

-- a walk passed all names below the zone, up to the one to which it went
abbrev pub PassedAll : Policy → Log → Query → DomainName → Type 0
PassedAll policy log query zone = (k : ℕ) → length zone.labels < k → k ≤ length (walk query).labels → NoCutSeen policy log (last_name k (walk query))

-- The deepest zone of the world answers the question of itself.
pub record IsFromDeepest (w : World) (query : Query) (m : Message) : Type 0 where
  pub zone : Zone
  pub deepest : zone_of w query ≡ Some zone
  pub replies : Replies w zone query m
