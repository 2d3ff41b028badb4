-- What a run says, once its log is taken from its upstream.
use Rattle.std.proofs.Common.{◌≡◌, ◌≤◌, ℕ, zero, suc, min, max, List, [], Option, Some, None, refl, sym, subst, arith}
use Rattle.dns_core.specs.Log.{log_of}
use Rattle.dns_core.specs.declared.log.LogEntry.{LogEntry}
use Rattle.dns_core.specs.declared.request.Question.{Question}
use Rattle.dns_core.specs.declared.request.Turn.{Turn}
use Rattle.recursor_types.specs.Policy.{with_patience}
use Rattle.recursor_types.specs.declared.policy.Policy.{Policy}
use Rattle.resolution.specs.Theorem.{IsRun}
use Rattle.recursor_core.specs.RecursorState.{RecursorState, policy_of_run, RepliesHold}
use Rattle.recursor_types.specs.declared.reply.Reply.{Reply}
use Rattle.recursor_command.specs.Command.{IsUntold}

-- a first run is set to what its recursor is
pub terms-are : {P : Type 0} (patience least : ℕ) (r : RecursorState P) (policy : Policy) → r.policy ≡ policy → min r.policy.patience patience ≡ least
    → policy_of_run patience r ≡ with_patience least policy
terms-are patience least r policy is least_is = λ i. with_patience (least_is i) (is i)

-- it is the run of its turns, from an empty log and the first moment on
pub run-of : (terms given : Policy) (patience most start last : ℕ) (turns : List Turn) (old : Option (List LogEntry)) (log : List LogEntry) → IsUntold old
    → given ≡ terms → patience ≡ most → start ≡ 0
    → (before : List LogEntry) × (old ≡ Some before) × IsRun given patience start last turns (log_of before) (log_of log)
    → IsRun terms most 0 last turns (log_of []) (log_of log)
run-of terms given patience most start last turns old log none r p s h =
    let by_terms = subst (λ (x : Policy). IsRun x patience start last turns (log_of h.0) (log_of log)) r h.2 in
    let by_patience = subst (λ (x : ℕ). IsRun terms x start last turns (log_of h.0) (log_of log)) p by_terms in
    let by_start = subst (λ (x : ℕ). IsRun terms most x last turns (log_of h.0) (log_of log)) s by_patience in
    subst (λ (before : List LogEntry). IsRun terms most 0 last turns (log_of before) (log_of log)) (none h.0 h.1) by_start

pub replies-of : (terms given : Policy) (log : List LogEntry) (start : ℕ) (turns : List Turn) (questions : List Question) (replies : List Reply)
    → given ≡ terms → start ≡ 0 → RepliesHold given (log_of log) start turns questions replies → RepliesHold terms (log_of log) 0 turns questions replies
replies-of terms given log start turns questions replies r s h =
    subst (λ (x : Policy). RepliesHold x (log_of log) 0 turns questions replies) r (subst (λ (x : ℕ). RepliesHold given (log_of log) x turns questions replies) s h)
