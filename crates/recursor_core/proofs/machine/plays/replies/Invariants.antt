use Rattle.recursor_core.proofs.MachineWords.{◌≡◌, ◌≤◌, ℕ, Some, slice_get, vec_len, ReplyOf, Reply}
use Rattle.recursor_core.proofs.machine.plays.replies.Given as goal

abbrev pub invariant-loop-place : goal.invariant-loop-place
invariant-loop-place l = record {
  replied : vec_len l.replies ≡ l.place;
  count : vec_len l.plays ≡ vec_len l.fn.plays;
  left : (k : ℕ) → l.place ≤ k → slice_get l.plays.items k ≡ slice_get l.fn.plays.items k;
  each : (q : ℕ) (reply : Reply) → slice_get l.replies.items q ≡ Some reply → ReplyOf (slice_get l.fn.plays.items q) reply;
}
