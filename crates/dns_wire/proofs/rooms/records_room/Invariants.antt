use Rattle.std.proofs.Common.{◌≡◌, length, drop}
use Rattle.std.specs.List.{flat_map}
use Rattle.wire_records.specs.Spelling.{spelled_record, room_after}
use Rattle.dns_wire.proofs.rooms.records_room.Given as goal

abbrev pub invariant-loop-plain : goal.invariant-loop-plain
invariant-loop-plain l = room_after l.left (length (flat_map spelled_record (drop l.plain-index l.records))) ≡ room_after l.fn.room (length (flat_map spelled_record l.records))
