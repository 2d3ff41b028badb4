use Rattle.recursor_question.proofs.Words.{◌≡◌, LogView, Reply, IsDoneWith, from_cache, answerable, SameBegun, IsOpen, steps, ResolutionHolds}
use Rattle.std.specs.Prelude.{◌⊎◌}
use Rattle.walk_tables.specs.Pools.{PoolsHold, given_so_far}
use Rattle.recursor_question.specs.Steps.{SteppedBy}
use Rattle.recursor_question.specs.Resolving.{want_of}
use Rattle.recursor_question.proofs.QuestionHasNext.{AnswersSoFar}
use Rattle.recursor_question.specs.declared.resolving.NextStep.TheVariants as need
use Rattle.recursor_question.proofs.resolving.Resolution.next.Given as goal

abbrev pub invariant-steps : goal.invariant-steps
invariant-steps l = record {
  given : given_so_far l.pools ≡ given_so_far l.fn.pools;
  from : (l.self ≡ l.fn.self) ⊎ IsOpen l.self.state;
  begun : SameBegun l.fn.self l.self;
  holds : (view : LogView) → SteppedBy view l.policy l.cache l.since l.tick → PoolsHold view l.fn.pools → ResolutionHolds view l.fn.self
      → ResolutionHolds view l.self × PoolsHold view l.pools;
  recalls : want_of l.fn.self ≡ need.SetOut
      → AnswersSoFar l.fn.self.question (answerable (from_cache l.cache l.fn.self.question.query l.tick.now)) l.fn.self l.self;
  replies : (reply : Reply) → IsDoneWith reply l.fn.self.state → IsDoneWith reply l.self.state;
}

abbrev pub decreases-steps : goal.decreases-steps
decreases-steps l = steps l.self
