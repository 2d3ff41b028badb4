use Rattle.std.proofs.Common.{◌≡◌, length, drop}
use Rattle.std.specs.List.{flat_map}
use Rattle.wire_records.specs.Spelling.{spelled_question, room_after}
use Rattle.dns_wire.proofs.rooms.questions_room.Given as goal

abbrev pub invariant-loop-query : goal.invariant-loop-query
invariant-loop-query l = room_after l.left (length (flat_map spelled_question (drop l.query-index l.questions))) ≡ room_after l.fn.room (length (flat_map spelled_question l.questions))
