use Rattle.recursor_core.proofs.Names.{◌≡◌, [], ℕ, List, Contains, vec_len, Turn, GoesOn, Plays, run_moments}
use Rattle.recursor_core.proofs.run.Run.play_rest.Given as goal

abbrev pub invariant-loop-q : goal.invariant-loop-q
invariant-loop-q g l = record {
  leads : GoesOn g.P.ConnectionProvider l.fn.self l.self;
  plays : (start : ℕ) (turns : List Turn) → Contains (run_moments start turns) l.fn.self.core.moment
      → Plays g.P.ConnectionProvider l.fn.self start turns [] l.questions → Plays g.P.ConnectionProvider l.self start turns [] l.questions;
  count : vec_len l.self.plays ≡ vec_len l.fn.self.plays;
}
