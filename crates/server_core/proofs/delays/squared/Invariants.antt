use Rattle.std.proofs.Common.{◌≡◌, ◌≤◌, ◌^◌}
use Rattle.server_core.specs.Delays.{squared}
use Rattle.server_core.proofs.delays.squared.Given as goal

abbrev pub invariant-loop-done : goal.invariant-loop-done
invariant-loop-done l = record { squares : l.square ≡ squared l._done l.factor; within : l.square ≤ 2 ^ 60 }
