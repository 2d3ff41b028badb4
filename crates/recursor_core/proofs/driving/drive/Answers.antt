use Rattle.recursor_core.proofs.Names.{◌∙◌, ◌≤◌, Contains, ℕ, min, IfOk, sym, subst, ap, TellsThat, IsPast, OnLogs, RecursorState, policy_of_run, run_moments, RepliesHold, rises_over, with_patience, Policy}
use Rattle.resolution.specs.Theorem.{OnlyServersAsked, IsRun}
use Rattle.recursor_core.proofs.MachineAdvances.{walks-on}
use Rattle.recursor_walk.specs.Way.{CanWalk}
use Rattle.walk_lookup.specs.Asking.{connect_of}
use Rattle.recursor_core.proofs.MachineHoldsOn.{rests_holds, holds_rests}
use Rattle.recursor_core.proofs.TurnsArePlayed.{played_over, run_is}
use Rattle.recursor_core.proofs.driving.drive.Goals as goal

pub answer-requires : goal.answer-requires
answer-requires g c =
    let was = c.recursor.inside in
    rests_holds g.P.ConnectionProvider c.args.patience was.run.core c.clear.new.self was.run.runner c.clear.ensures.policy c.clear.ensures.same.1
    c.clear.ensures.derived c.recursor.invariant

pub invariant_of-recursor : goal.invariant_of-recursor
invariant_of-recursor g c =
    let over = c.answer.ensures.over in
    let walks = subst CanWalk (sym (over.policy ∙ c.clear.ensures.policy)) (walks-on _ _ c.recursor.invariant.walks) in
    let log = g.P.ConnectionProvider.log in
    let start = c.clear.new.self.moment in
    let old = log c.recursor.inside.run.runner.carrier.provider in
    let told = log c.answer.new.self.runner.carrier.provider in
    let past = subst (λ (m : ℕ). TellsThat old (IsPast m)) (sym c.clear.ensures.same.1) c.recursor.invariant.past in
    let rises = rises_over (run_moments start c.args.turns.now) start old told past c.recursor.invariant.rises (played_over start c.args.turns.now old told over.grown) in
    let policy = over.policy ∙ c.clear.ensures.policy in
    let connects = over.carries_on.options ∙ (c.recursor.invariant.connects ∙ sym (ap (λ (held : Policy). connect_of held.resolver) policy)) in
    holds_rests g.P.ConnectionProvider c.answer.new.self.patience c.answer.new.self.core c.answer.new.self.runner walks connects rises over.runs

pub returns-clause-run : goal.returns-clause-run
returns-clause-run g c =
    let log = g.P.ConnectionProvider.log in
    let was = c.recursor.inside.run.core in
    let patience = c.args.patience in
    let turns = c.args.turns.now in
    let over = c.answer.ensures.over in
    let start = c.clear.new.self.moment in
    let last = c.answer.new.self.core.moment in
    let old = log c.recursor.inside.run.runner.carrier.provider in
    let told = log c.answer.new.self.runner.carrier.provider in
    let policy = with_patience (min was.policy.patience patience) was.policy in
    let past = subst (λ (m : ℕ). TellsThat old (IsPast m)) (sym c.clear.ensures.same.1) c.recursor.invariant.past in
    let rises = rises_over (run_moments start turns) start old told past c.recursor.invariant.rises (played_over start turns old told over.grown) in
    let asks = subst (λ (held : Policy). TellsThat told (OnlyServersAsked held)) (over.policy ∙ c.clear.ensures.policy) over.runs.asks in
    let by_start = run_is policy patience start last turns old told over.grown over.patient rises over.runs.past asks in
    let by_moment = subst (λ (m : ℕ). OnLogs old told (IsRun policy patience m last turns)) c.clear.ensures.same.1 by_start in
    subst (λ (s : RecursorState _). OnLogs (log s.provider) told (IsRun (policy_of_run patience s) patience s.moment last turns)) c.recursor.view_is by_moment

pub returns-clause-moment : goal.returns-clause-moment
returns-clause-moment g c =
    let over = c.answer.ensures.over in
    subst (λ (s : RecursorState _). Contains (run_moments s.moment c.args.turns.now) c.answer.new.self.core.moment × (s.moment ≤ c.answer.new.self.core.moment)) c.recursor.view_is
    (subst (λ (m : ℕ). Contains (run_moments m c.args.turns.now) c.answer.new.self.core.moment × (m ≤ c.answer.new.self.core.moment)) c.clear.ensures.same.1 (over.timely, over.later))

pub returns-clause-replies : goal.returns-clause-replies
returns-clause-replies g c =
    let told = g.P.ConnectionProvider.log c.answer.new.self.runner.carrier.provider in
    let patience = c.args.patience in
    let was = c.recursor.inside.run.core in
    let new = c.clear.new.self in
    let by_setting = subst (λ (held : Policy). IfOk c.answer.result (λ replies. TellsThat told (λ log.
    RepliesHold held log new.moment c.args.turns.now c.args.questions.now replies.items))) c.clear.ensures.policy
    c.answer.ensures.replies in
    let by_moment = subst (λ (m : ℕ). IfOk c.answer.result (λ replies. TellsThat told (λ log.
    RepliesHold (with_patience (min was.policy.patience patience) was.policy) log m c.args.turns.now c.args.questions.now replies.items))) c.clear.ensures.same.1
    by_setting in
    subst (λ (s : RecursorState _). IfOk c.answer.result (λ replies. TellsThat told (λ log.
    RepliesHold (policy_of_run patience s) log s.moment c.args.turns.now c.args.questions.now replies.items))) c.recursor.view_is
    by_moment

pub returns-clause-vouches : goal.returns-clause-vouches
returns-clause-vouches g c es h =
    subst (λ (s : RecursorState _). g.P.ConnectionProvider.vouches s.provider es) c.recursor.view_is (c.answer.ensures.over.carries_on.vouches es h)
