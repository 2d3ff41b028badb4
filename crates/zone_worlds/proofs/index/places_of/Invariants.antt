use Rattle.std.proofs.Common.{take}
use Rattle.zone_worlds.specs.Index.{FindsZones}
use Rattle.zone_worlds.proofs.index.places_of.Given as goal

abbrev pub invariant-loop-place : goal.invariant-loop-place
invariant-loop-place l = FindsZones l.zones (take l.place l.zones) l.places
