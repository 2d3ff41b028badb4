use Rattle.std.proofs.Common.{◌≡◌, ◌+◌, ◌∙◌, length, ap, arith}
use Rattle.wire_records.specs.Spelling.{spelled_question, room_after}
use Rattle.wire_records.proofs.RoomLaws.{length_question}
use Rattle.wire_records.proofs.rooms.question_room.Goals as goal

pub returns : goal.returns
returns c =
    let long : c.name_length.result + 4 ≡ length (spelled_question c.args.query.now) = omega (arith, c.name_length.ensures.sum, length_question c.args.query.now) in
    c.take_room.ensures ∙ ap (room_after c.args.room) long
