use Rattle.recursor_core.proofs.MachineWords.{◌≡◌, All, vec_len}
use Rattle.recursor_core.specs.declared.machine.plays.QuestionState.TheVariants as played
use Rattle.recursor_core.proofs.machine.plays.waiting.Given as goal

abbrev pub invariant-loop-question : goal.invariant-loop-question
invariant-loop-question l = record {
  count : vec_len l.plays ≡ l._question-index;
  waits : All (λ p. p ≡ played.Waiting) l.plays.items;
}
