-- For whom a world is checked, and which worlds are checked.
use Rattle.std.specs.Prelude.{◌≡◌, ℕ, ◌<◌, ◌≤◌, true, List, length, Contains}
use Rattle.std.specs.declared.net.IpAddr.{IpAddr}
use Rattle.dns_core.specs.Name.{same_names}
use Rattle.dns_core.specs.declared.record.Record.{Record}
use Rattle.resolver_settings.specs.Access.{denies}
use Rattle.recursor_types.specs.declared.policy.Policy.{Policy}
use Rattle.zone_rules.specs.declared.world.Zone.{Zone}
use Rattle.zone_rules.specs.declared.world.World.{World}
use Rattle.world_check.specs.declared.filters.WorldFilters.{WorldFilters}
use Rattle.world_facts.specs.Served.{IsHeld}

-- The recursor begins at these roots, of which there is one, has these filters, waits for at least so many polls, and leaves a lookup some time.
pub record IsGiven (policy : Policy) (ips : List IpAddr) (filters : WorldFilters) (polls : ℕ) : Type 0 where
  pub roots : policy.roots ≡ ips
  pub server : (ip : IpAddr) → denies policy.server_filter ip ≡ denies filters.server ip
  pub answer : (ip : IpAddr) → (denies policy.answer_filter) ip ≡ denies filters.answer ip
  pub patience : polls ≤ policy.patience
  pub rooted : 0 < length ips
  pub timed : 0 < policy.timeout

-- a world as a scenario may hold it: its records are of class IN, and no two zones have one apex
pub record IsOfScenario (w : World) : Type 0 where
  pub internet : (r : Record) → IsHeld w r → r.dns_class.code ≡ 1
  pub apart : (a b : Zone) → Contains w.zones a → Contains w.zones b → same_names a.apex b.apex ≡ true → a ≡ b
