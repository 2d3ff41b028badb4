use Rattle.recursor_core.proofs.Names.{◌≡◌, vec_len, GoesOn, PlaysGoOn, work}
use Rattle.recursor_core.proofs.run.Run.finish.Given as goal

abbrev pub invariant-turns : goal.invariant-turns
invariant-turns g l = record {
  leads : GoesOn g.P.ConnectionProvider l.fn.self l.self;
  plays : PlaysGoOn g.P.ConnectionProvider l.fn.self l.self;
  count : vec_len l.self.plays ≡ vec_len l.fn.self.plays;
}

abbrev pub decreases-turns : goal.decreases-turns
decreases-turns g l = work l.self
