use Rattle.std.proofs.Common.{List, ◌++◌, take}
use Rattle.dns_core.specs.declared.record.Record.{Record}
use Rattle.zone_worlds.specs.Index.{FindsRecords}
use Rattle.zone_worlds.proofs.records.add_zone.Given as goal

abbrev pub invariant-loop-r : goal.invariant-loop-r
invariant-loop-r l = (seen : List Record) → FindsRecords seen l.fn.kept → FindsRecords (seen ++ take l.r-index l.r-items) l.kept
