use Rattle.std.proofs.Common.{◌≡◌, ◌+◌, ◌∙◌, length, sym, ap, arith}
use Rattle.wire_records.specs.Spelling.{spelled_data, spelled_record, room_after}
use Rattle.wire_records.proofs.RoomLaws.{no_room, room_on, length_record}
use Rattle.wire_records.proofs.rooms.record_room.Goals as goal

pub returns-in_err-room : goal.returns-in_err-room
returns-in_err-room c =
    let held = length (spelled_data c.args.plain.now.rdata) in
    let long : c.name_length.result + 10 + held ≡ length (spelled_record c.args.plain.now) = omega (arith, c.name_length.ensures.sum, length_record c.args.plain.now) in
    let none = no_room c.args.room (c.name_length.result + 10) held (sym c.in_err-room.ensures) in
    rw c.from_residual.ensures (sym none ∙ ap (room_after c.args.room) long)

pub returns : goal.returns
returns c =
    let held = length (spelled_data c.args.plain.now.rdata) in
    let long : c.name_length.result + 10 + held ≡ length (spelled_record c.args.plain.now) = omega (arith, c.name_length.ensures.sum, length_record c.args.plain.now) in
    c.data_room.ensures ∙ room_on c.args.room (c.name_length.result + 10) held c.in_ok-room.room (sym c.in_ok-room.ensures) ∙ ap (room_after c.args.room) long
