use Rattle.std.proofs.Common.{take}
use Rattle.zone_worlds.specs.Index.{FindsHosts}
use Rattle.zone_worlds.proofs.index.hosts_of.Given as goal

abbrev pub invariant-loop-place : goal.invariant-loop-place
invariant-loop-place l = FindsHosts l.hosts (take l.place l.hosts) l.places
