use Rattle.std.proofs.Common.{◌≡◌, ◌+◌, ◌∙◌, length, sym, ap, arith}
use Rattle.dns_core.specs.declared.record.RData.{RData}
use Rattle.dns_core.specs.declared.record.Soa.{Soa}
use Rattle.wire_names.proofs.WrittenNames.{length_written}
use Rattle.wire_records.specs.Spelling.{spelled_soa, spelled_data, room_after}
use Rattle.wire_records.proofs.RoomLaws.{length_soa}
use Rattle.wire_records.proofs.rooms.data_room.Goals as goal

pub returns-in-NS : goal.returns-in-NS
returns-in-NS c = c.take_room-in-NS.ensures ∙ ap (room_after c.args.room) (c.name_length.ensures.sum ∙ sym (length_written c.in-NS.name.labels) ∙ ap (λ (d : RData). length (spelled_data d)) (sym c.in-NS.is))

pub returns-in-CNAME : goal.returns-in-CNAME
returns-in-CNAME c = c.take_room-in-CNAME.ensures ∙ ap (room_after c.args.room) (c.name_length-in-CNAME.ensures.sum ∙ sym (length_written c.in-CNAME.name.labels) ∙ ap (λ (d : RData). length (spelled_data d)) (sym c.in-CNAME.is))

pub returns-in-SOA : goal.returns-in-SOA
returns-in-SOA c =
    let soa = c.get-soa.result.now in
    let first = c.name_length-in-SOA.ensures.sum in
    let second = c.name_length-in-SOA-2.ensures.sum in
    let long : c.name_length-in-SOA.result + c.name_length-in-SOA-2.result + 20 ≡ length (spelled_soa soa) = omega (arith, first, second, length_soa soa) in
    c.take_room-in-SOA.ensures ∙ ap (room_after c.args.room) (long ∙ ap (λ (s : Soa). length (spelled_soa s)) c.get-soa.ensures ∙ ap (λ (d : RData). length (spelled_data d)) (sym c.in-SOA.is))
