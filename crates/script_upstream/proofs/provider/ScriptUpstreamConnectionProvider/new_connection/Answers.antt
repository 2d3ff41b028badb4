use Rattle.std.proofs.Common.{◌≡◌, ap, ◌∙◌, subst}
use Rattle.script_upstream.specs.Giving.{Gives}
use Rattle.script_upstream.specs.declared.script.script.Script.{Script}
use Rattle.script_upstream.proofs.provider.ScriptUpstreamConnectionProvider.new_connection.Goals as goal

pub returns-in-Ok-clause-vouches : goal.returns-in-Ok-clause-vouches
returns-in-Ok-clause-vouches c = λ es g.
    subst (λ (s : Script). Gives s es) (ap (λ u. u.script) c.count_fault.ensures.same ∙ c.in-Ok.ensures.ok.script) g
