use Rattle.recursor_core.proofs.Names.{◌≡◌, drop, vec_len, Turning, Plays}
use Rattle.recursor_core.proofs.run.Run.play_turns.Given as goal

abbrev pub invariant-loop-n : goal.invariant-loop-n
invariant-loop-n g l = record {
  turning : Turning g.P.ConnectionProvider l.turns (drop l.n l.turns) l.fn.self l.self;
  plays : Plays g.P.ConnectionProvider l.fn.self l.fn.self.core.moment l.turns l.turns l.questions
      → Plays g.P.ConnectionProvider l.self l.fn.self.core.moment l.turns (drop l.n l.turns) l.questions;
  count : vec_len l.self.plays ≡ vec_len l.fn.self.plays;
}
