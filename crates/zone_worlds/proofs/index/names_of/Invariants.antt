use Rattle.std.proofs.Common.{take}
use Rattle.zone_worlds.specs.Index.{FindsNames}
use Rattle.zone_worlds.proofs.index.names_of.Given as goal

abbrev pub invariant-loop-zone : goal.invariant-loop-zone
invariant-loop-zone l = FindsNames (take l.zone-index l.zones) l.names
