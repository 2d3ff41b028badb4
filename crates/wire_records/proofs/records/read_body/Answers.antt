use Rattle.std.proofs.Common.{arith, take, drop, sym, subst}
use Rattle.std.proofs.lemmas.List.{take-append-drop}
use Rattle.wire_names.specs.Kept.{IsRest}
use Rattle.wire_records.proofs.Following.{rest_after, bytes_after}
use Rattle.wire_records.proofs.RecordLaws.{fixed_follows, data_there}
use Rattle.wire_records.proofs.records.read_body.Goals as goal

pub read_data-requires-clause-rest : goal.read_data-requires-clause-rest
read_data-requires-clause-rest c = rest_after c.args.message.now c.args.bytes.now c.in_ok-fixed.data.now c.requires.rest (fixed_follows c.args.bytes.now ((c.in_ok-fixed.fixed.class, (c.in_ok-fixed.fixed.ttl, c.in_ok-fixed.fixed.count)), c.in_ok-fixed.data.now) c.in_ok-fixed.ensures.exact)

pub record_from-record-requires : goal.record_from-record-requires
record_from-record-requires c =
    let fixed = fixed_follows c.args.bytes.now ((c.in_ok-fixed.fixed.class, (c.in_ok-fixed.fixed.ttl, c.in_ok-fixed.fixed.count)), c.in_ok-fixed.data.now) c.in_ok-fixed.ensures.exact in
    let fits = bytes_after c.args.bytes.now c.in_ok-fixed.data.now (λ i. omega (arith, c.type_inv.bytes i)) fixed in
    (data_there c.args.message.now c.in_ok-fixed.data.now c.in_ok-fixed.fixed.count c.args.code c.in_ok-rdata.rdata c.in_ok-fixed.ensures.within (λ i. omega (arith, c.type_inv.message i)) fits c.in_ok-rdata.ensures.exact).1

pub returns-clause-rest : goal.returns-clause-rest
returns-clause-rest c =
    let fixed = fixed_follows c.args.bytes.now ((c.in_ok-fixed.fixed.class, (c.in_ok-fixed.fixed.ttl, c.in_ok-fixed.fixed.count)), c.in_ok-fixed.data.now) c.in_ok-fixed.ensures.exact in
    let is = rest_after c.args.message.now c.args.bytes.now c.in_ok-fixed.data.now c.requires.rest fixed in
    let back = rest_after c.args.message.now c.in_ok-fixed.data.now (drop c.in_ok-fixed.fixed.count c.in_ok-fixed.data.now) is (record { front = take c.in_ok-fixed.fixed.count c.in_ok-fixed.data.now; parts = sym (take-append-drop c.in_ok-fixed.fixed.count c.in_ok-fixed.data.now) }) in
    subst (IsRest c.args.message.now) (sym c.split_at.ensures.back) back
