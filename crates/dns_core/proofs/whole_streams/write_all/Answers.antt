use Rattle.std.proofs.Common.{arith}
use Rattle.dns_core.proofs.BytesJoined.{advanced}
use Rattle.dns_core.proofs.whole_streams.write_all.Goals as goal

pub turns-preserved : goal.turns-preserved
turns-preserved g c = record {
  front = advanced _ (g.K.Sink.written c.turns.sink) _ c.args.text.now c.turns.rest.now c.in_ok-count.count c.turns.invariant.front c.in_ok-count.ensures.bytes;
  later = omega (arith, c.turns.invariant.later, c.in_ok-count.ensures.cause.later);
}
