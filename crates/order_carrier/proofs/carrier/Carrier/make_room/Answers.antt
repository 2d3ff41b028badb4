use Rattle.std.proofs.Common.{◌≡◌, true, refl, ap}
use Rattle.std.specs.Prelude.{is_some}
use Rattle.order_carrier.specs.Stand.{stand_of}
use Rattle.order_carrier.specs.declared.order_state.OrderState.TheVariants as slot
use Rattle.order_carrier.proofs.KeysCompareEqual.{at-put, elsewhere-put}
use Rattle.order_carrier.proofs.OrderByCallParts.{room-same}
use Rattle.order_carrier.proofs.carrier.Carrier.make_room.Goals as goal

pub returns-in_err-copy-clause-made : goal.returns-in_err-copy-clause-made
returns-in_err-copy-clause-made g c = room-same c.args.key c.args.self.now c.requires

pub returns-in_err-query-clause-made : goal.returns-in_err-query-clause-made
returns-in_err-query-clause-made g c = room-same c.args.key c.args.self.now c.requires

pub returns-then-not-has_numbers-clause-made : goal.returns-then-not-has_numbers-clause-made
returns-then-not-has_numbers-clause-made g c = room-same c.args.key c.args.self.now c.requires

pub returns-in-Ok-clause-made : goal.returns-in-Ok-clause-made
returns-in-Ok-clause-made g c =
    let slots = (rw c.in-Ok.is at c.insert.ensures).updates.0 in
    let new = c.insert.new.self in
    record {
      provider = refl;
      entries = refl;
      options = refl;
      unseen = ap stand_of (at-put c.args.key slot.Reserved c.args.self.now.slots new slots);
      others = elsewhere-put c.args.key slot.Reserved c.args.self.now.slots new slots;
    }

pub returns-in-Ok-clause-room : goal.returns-in-Ok-clause-room
returns-in-Ok-clause-room g c =
    let has : c.has_numbers.result ≡ true = let n = c.if-not-has_numbers.false in cc in
    (c.has_numbers.ensures.0 has, ap is_some (at-put c.args.key slot.Reserved c.args.self.now.slots c.insert.new.self (rw c.in-Ok.is at c.insert.ensures).updates.0))
