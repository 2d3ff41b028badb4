use Rattle.recursor_core.proofs.Names.{◌≡◌, ◌≤◌, ◌<◌, MatchBool, Goes, due}
use Rattle.recursor_core.proofs.turns.poll_rest.Given as goal

abbrev pub invariant-orders : goal.invariant-orders
invariant-orders g l = record {
  goes : Goes g.P.ConnectionProvider l.tick l.fn.core l.core l.fn.runner l.runner;
  keeps : due l.tick.patience l.core l.runner ≤ due l.tick.patience l.fn.core l.fn.runner;
  falls : MatchBool l.some (due l.tick.patience l.core l.runner < due l.tick.patience l.fn.core l.fn.runner) ((l.core ≡ l.fn.core) × (l.polled ≡ l.fn.polled));
}

abbrev pub decreases-orders : goal.decreases-orders
decreases-orders g l = due l.tick.patience l.core l.runner
