use Rattle.std.proofs.Common.{◌≡◌, ◌+◌, length}
use Rattle.std.specs.List.{range_with_len}
use Rattle.server_pool.specs.NewPool.{with_servers}
use Rattle.server_pool.proofs.new_pool.add_all.Given as goal

-- the servers of the configurations so far are added, and their numbers are told
abbrev pub invariant-loop-config : goal.invariant-loop-config
invariant-loop-config l = record {
  shared : l.shared ≡ with_servers l.first_delays l.yielded l.fn.shared;
  numbers : l.numbers.items ≡ range_with_len (length l.fn.shared.table + 1) (length l.yielded);
}
