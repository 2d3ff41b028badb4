-- What holds of a question goes on holding as a machine comes further.
use Rattle.recursor_question.proofs.Words.{ℕ, arith, Question, LogView, Advances, StateHolds, ResolutionHolds, State, Walking, Asking, Done, Resolution}
use Rattle.recursor_walk.proofs.WalkAdvances.{walk-later}
use Rattle.recursor_walk.proofs.QueryAdvances.{last-later, reply-later}

module _ (old new : LogView) (later : Advances old new) where
  -- where a resolution stands
  state-later : (t0 : ℕ) (question : Question) (s : State) → StateHolds old t0 question s → StateHolds new t0 question s
  state-later t0 question (Walking w) h = walk-later old new later t0 question.query w.value h
  state-later t0 question (Asking a) h = last-later old new later t0 question.query a.value h
  state-later t0 question (Done reply) h = (reply-later old new later t0 question reply.value h.0, h.1)
  state-later t0 question _ h = h

  pub resolution-later : (r : Resolution) → ResolutionHolds old r → ResolutionHolds new r
  resolution-later r h = record { begun = let b = h.begun in let m = later.moment in omega (arith, b, m); state = state-later r.begun r.question r.state h.state }
