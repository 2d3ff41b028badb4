-- Worlds that serve a recursor well, and who serves a zone of one.
use Rattle.std.specs.Prelude.{◌≡◌, ◌<◌, true, false, length, Contains, Some}
use Rattle.std.specs.declared.net.IpAddr.{IpAddr}
use Rattle.dns_core.specs.Name.{DomainName, same_names}
use Rattle.dns_core.specs.declared.record.Record.{Record}
use Rattle.resolver_settings.specs.Access.{denies}
use Rattle.resolution.specs.Records.{address}
use Rattle.recursor_types.specs.declared.policy.Policy.{Policy}
use Rattle.zone_rules.specs.Tree.{serves}
use Rattle.zone_rules.specs.declared.world.Zone.{Zone}
use Rattle.zone_rules.specs.declared.world.World.{World}
use Rattle.world_layout.specs.Layout.{is_laid_out}
use Rattle.world_layout.specs.Naming.{has_sound_names}
use Rattle.world_check.specs.Serving.{has_served_root, is_delegated_well, has_served_zones}

-- a zone of the world holds the record
pub record IsHeld (w : World) (r : Record) : Type 0 where
  pub zone : Zone
  pub has : Contains w.zones zone
  pub within : Contains zone.records r

-- A world serves a recursor of the policy: the clauses of a well served world; its records are of class IN, and no two zones have one apex.
pub record IsServed (policy : Policy) (w : World) : Type 0 where
  pub rooted : 0 < length policy.roots
  pub root : has_served_root w policy.roots ≡ true
  pub laid_out : is_laid_out w ≡ true
  pub delegated : is_delegated_well w ≡ true
  pub served : has_served_zones w ≡ true
  pub named : has_sound_names w ≡ true
  pub allowed : (r : Record) (ip : IpAddr) → IsHeld w r → address r ≡ Some ip → (denies policy.server_filter ip ≡ false) × (denies policy.answer_filter ip ≡ false)
  pub patient : w.delay < policy.patience
  pub timed : 0 < policy.timeout
  pub internet : (r : Record) → IsHeld w r → r.dns_class.code ≡ 1
  pub apart : (a b : Zone) → Contains w.zones a → Contains w.zones b → same_names a.apex b.apex ≡ true → a ≡ b

-- The address is a host that serves the zone of the world with this apex.
pub record IsServerOf (w : World) (ip : IpAddr) (cut : DomainName) : Type 0 where
  pub zone : Zone
  pub has : Contains w.zones zone
  pub apex : same_names zone.apex cut ≡ true
  pub by : serves w ip zone.apex.labels ≡ true
