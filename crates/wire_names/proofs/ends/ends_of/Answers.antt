use Rattle.std.proofs.Common.{◌∷◌, [], ap, arith, length, length-append}
use Rattle.wire_names.proofs.EndLaws.{ends_same, ends_pushed}
use Rattle.wire_names.proofs.ends.ends_of.Goals as goal

pub loop-place-preserved : goal.loop-place-preserved
loop-place-preserved c =
    let before = c.loop-place.ends.items in
    let end = c.end_of-end.result in
    record {
      all = omega (arith, ap length c.in_ok-push.ensures.items, length-append before (end ∷ []), c.loop-place.invariant.all);
      ends = ends_same c.args.message.now _ c.push.new.self.items c.in_ok-push.ensures.items (ends_pushed c.args.message.now before c.loop-place.place end c.loop-place.invariant.all c.loop-place.invariant.ends c.end_of-end.ensures);
    }
