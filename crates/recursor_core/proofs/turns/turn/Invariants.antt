use Rattle.recursor_core.proofs.Names.{◌≡◌, ◌≤◌, ◌<◌, ◌⊎◌, ℕ, false, contains, nat_cmp, Goes, due}
use Rattle.recursor_core.proofs.turns.turn.Given as goal

abbrev pub invariant-rounds : goal.invariant-rounds
invariant-rounds g l = record {
  goes : Goes g.P.ConnectionProvider l.tick l.fn.core l.core l.fn.runner l.runner;
  keeps : due l.tick.patience l.core l.runner ≤ due l.tick.patience l.fn.core l.fn.runner;
  falls : (due l.tick.patience l.core l.runner < due l.tick.patience l.fn.core l.fn.runner) ⊎ ((number : ℕ) → contains nat_cmp l.polled number ≡ false);
}

abbrev pub decreases-rounds : goal.decreases-rounds
decreases-rounds g l = due l.tick.patience l.core l.runner
