use Rattle.std.proofs.Common.{take}
use Rattle.zone_worlds.specs.Index.{all_records, FindsRecords}
use Rattle.zone_worlds.proofs.records.held_by.Given as goal

abbrev pub invariant-loop-zone : goal.invariant-loop-zone
invariant-loop-zone l = FindsRecords (all_records (take l.zone-index l.zones)) l.kept
