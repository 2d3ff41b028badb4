use Rattle.std.proofs.Common.{◌≡◌, find, length}
use Rattle.std.specs.List.{after_first}
use Rattle.pool_rules.specs.RetryQueue.{may_ask}
use Rattle.pool_rules.proofs.retry_queue.RetryQueue.pop_allowed.Given as goal

abbrev pub invariant-refused : goal.invariant-refused
invariant-refused l = record {
  busy : l.self.busy ≡ l.initial.self.busy;
  udp_off : l.self.udp_off ≡ l.initial.self.udp_off;
  kept : l.self.kept ≡ l.initial.self.kept;
  sleeps : l.self.sleeps ≡ l.initial.self.sleeps;
  most : l.self.most ≡ l.initial.self.most;
  first : find (may_ask l.self.udp_off) l.self.waiting ≡ find (may_ask l.self.udp_off) l.initial.self.waiting;
  rest : after_first (may_ask l.self.udp_off) l.self.waiting ≡ after_first (may_ask l.self.udp_off) l.initial.self.waiting;
}

abbrev pub decreases-refused : goal.decreases-refused
decreases-refused l = length l.self.waiting
