-- Denials that are the world's.
use Rattle.std.specs.Prelude.{◌≡◌, true, false, [], Some, None}
use Rattle.dns_core.specs.declared.message.Query.{Query}
use Rattle.dns_core.specs.declared.net_error.NoRecords.{NoRecords}
use Rattle.zone_rules.specs.Tree.{zone_of, exists_in}
use Rattle.zone_rules.specs.Choosing.{owned}
use Rattle.zone_rules.specs.declared.world.Zone.{Zone}
use Rattle.zone_rules.specs.declared.world.World.{World}
use Rattle.zone_worlds.specs.Answer.{alias_for}

-- A denial is the world's: NXDOMAIN of a name that does not exist; or NOERROR of one that exists and has no alias, and of which the deepest zone owns nothing of the type.
pub data DeniesAsWorld (w : World) (query : Query) (n : NoRecords) : Type 0 where
  of_name : n.response_code.code ≡ 3 → exists_in w query.name ≡ false → DeniesAsWorld w query n
  of_type : {zone : Zone} → n.response_code.code ≡ 0 → exists_in w query.name ≡ true → alias_for w query ≡ None
      → zone_of w query ≡ Some zone → owned zone query.name query.query_type ≡ [] → DeniesAsWorld w query n
