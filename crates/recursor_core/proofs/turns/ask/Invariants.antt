use Rattle.recursor_core.proofs.Names.{◌≡◌, ◌≤◌, ◌<◌, ◌⊎◌, Goes, due}
use Rattle.recursor_core.proofs.turns.ask.Given as goal

abbrev pub invariant-orders : goal.invariant-orders
invariant-orders g l = record {
  goes : Goes g.P.ConnectionProvider l.tick l.fn.core l.core l.fn.runner l.runner;
  keeps : due l.tick.patience l.core l.runner ≤ due l.tick.patience l.fn.core l.fn.runner;
  falls : (due l.tick.patience l.core l.runner < due l.tick.patience l.fn.core l.fn.runner) ⊎ (l.polled ≡ l.fn.polled);
}

abbrev pub decreases-orders : goal.decreases-orders
decreases-orders g l = due l.tick.patience l.core l.runner
