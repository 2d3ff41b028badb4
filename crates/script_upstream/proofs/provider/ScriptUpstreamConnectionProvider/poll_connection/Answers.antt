use Rattle.std.proofs.Common.{◌≡◌, ap, ◌∙◌, subst}
use Rattle.script_upstream.specs.Giving.{Gives}
use Rattle.script_upstream.specs.declared.script.script.Script.{Script}
use Rattle.script_upstream.proofs.provider.ScriptUpstreamConnectionProvider.poll_connection.Goals as goal
use Rattle.script_upstream.proofs.provider.ScriptUpstreamConnectionProvider.poll_connection.Goals.{then-is_err, else-is_err}

pub returns-in-Pending-clause-vouches : goal.returns-in-Pending-clause-vouches
returns-in-Pending-clause-vouches c = λ es g.
    subst (λ (s : Script). Gives s es) (ap (λ u. u.script) c.count_pending.ensures.same ∙ c.in-Pending.ensures.script) g

pub returns-after-is_err-clause-vouches : goal.returns-after-is_err-clause-vouches
returns-after-is_err-clause-vouches c = λ es g.
    let noted = rw c.in-Ready-Ok.field-0-is at c.in-Ready-Ok.ensures in
    let same : c.if-is_err.self.script ≡ c.poll_open.new.self.script = elim c.if-is_err.branch [
      | then-is_err w ↦ ap (λ u. u.script) w.self-is ∙ ap (λ u. u.script) w.count_fault.ensures.same
      | else-is_err w ↦ ap (λ u. u.script) w.self-is
    ] in
    subst (λ (s : Script). Gives s es) (same ∙ noted.0.script) g
