use Rattle.std.proofs.Common.{◌≡◌, ◌+◌, ◌≤◌, length}
use Rattle.std.specs.VecDeque.{deque_capacity}
use Rattle.pool_lookup.proofs.RoundIsDealt.{IsDealing}
use Rattle.pool_lookup.proofs.rounds.deal.Given as goal

abbrev pub invariant-dealing : goal.invariant-dealing
invariant-dealing l = record {
  deals : IsDealing l.most l.counter l.initial.queue l.queue l.ready.items;
  capacity : deque_capacity l.ready ≡ deque_capacity l.initial.ready;
  fits : length l.ready.items + length l.queue.waiting ≤ deque_capacity l.ready;
}
