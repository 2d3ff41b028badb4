use Rattle.std.proofs.Common.{◌≡◌, ◌∙◌, sym, ap, subst, min, arith}
use Rattle.recursor_types.specs.Policy.{policy_of}
use Rattle.recursor_core.specs.RecursorState.{policy_of_run}
use Rattle.recursor_command.specs.Command.{IsUntold, terms_by}
use Rattle.recursor_command.proofs.RunSays.{terms-are, run-of, replies-of}
use Rattle.recursor_command.proofs.resolving.driven.Goals as goal

pub returns-clause-resolves : goal.returns-clause-resolves
returns-clause-resolves g c = λ log is.
    let options = c.args.options in
    let turns = c.args.turns.now in
    let questions = c.args.questions.now in
    let new = c.in_ok-recursor.ensures in
    let r = c.in_ok-recursor.recursor in
    let p = c.first_patience.result in
    let told = ap g.P.ConnectionProvider.log (sym c.into_provider.ensures) ∙ is in
    let none : IsUntold (g.P.ConnectionProvider.log r.provider) = subst (λ x. IsUntold (g.P.ConnectionProvider.log x)) (sym new.0) c.requires.new in
    let first : min r.policy.patience p ≡ c.args.patience = rw (new.1, c.first_patience.ensures.same) c.first_patience.ensures.first in
    let terms = terms_by c.args.roots.now options c.args.patience in
    let same : policy_of_run p r ≡ terms = terms-are p c.args.patience r (policy_of c.args.roots.now options) new.1 first in
    record {
      last = c.drive.new.recursor.moment;
      run = run-of terms (policy_of_run p r) p c.args.patience r.moment c.drive.new.recursor.moment turns (g.P.ConnectionProvider.log r.provider) log none same c.first_patience.ensures.same new.2
          (c.drive.ensures.run log told);
      answered = omega (arith, c.in_ok-replies.ensures.answered);
      replies = replies-of terms (policy_of_run p r) log r.moment turns questions c.in_ok-replies.replies.items same new.2 (c.in_ok-replies.ensures.replies log told);
    }
