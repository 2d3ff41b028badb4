use Rattle.std.proofs.Common.{ℕ, ◌≤◌, arith}
use Rattle.resolution.proofs.failing.moments_decide_what_is_late.Goals as goal

le_trans : (a b c : ℕ) → a ≤ b → b ≤ c → a ≤ c
le_trans a b c h k = omega arith

pub returns-clause-late : goal.returns-clause-late
returns-clause-late c = λ log n m t e rise here at h i k f later there then. le_trans t m k h (rise n i m k e f later here there at then)

pub returns-clause-not_late : goal.returns-clause-not_late
returns-clause-not_late c = λ log n m t e here at late. late n m e (omega arith) here at
