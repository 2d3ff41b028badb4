-- Worlds with fully qualified names alone.
use Rattle.std.specs.Prelude.{Bool}
use Rattle.std.specs.List.{list_all}
use Rattle.dns_core.specs.Message.{is_qualified_record}
use Rattle.zone_rules.specs.declared.world.World.{World}

-- every name in the records of the world is fully qualified
abbrev pub is_qualified_world : World → Bool
is_qualified_world w = list_all (λ z. list_all is_qualified_record z.records) w.zones
