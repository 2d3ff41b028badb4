use Rattle.recursor_core.proofs.run.Run.play.Goals as goal

pub play_at-requires-clause-under_way : goal.play_at-requires-clause-under_way
play_at-requires-clause-under_way g c = rw c.as_slice.ensures.value at c.in-Some.ensures
