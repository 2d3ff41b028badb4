use Rattle.std.proofs.Common.{◌≡◌, drop}
use Rattle.std.specs.Prelude.{find}
use Rattle.zone_rules.specs.Choosing.{is_alias}
use Rattle.zone_rules.proofs.choosing.alias_in.Given as goal

abbrev pub invariant-loop-r : goal.invariant-loop-r
invariant-loop-r l = find (is_alias l.name) (drop l.r-index l.r-items) ≡ find (is_alias l.name) l.r-items
