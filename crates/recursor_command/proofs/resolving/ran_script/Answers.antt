use Rattle.std.proofs.Common.{◌≡◌, List, Some, ap, sym, subst}
use Rattle.recursor_types.specs.declared.reply.Reply.{Reply}
use Rattle.script_upstream.specs.Giving.{Gives}
use Rattle.script_upstream.specs.Upstream.{Upstream}
use Rattle.script_upstream.specs.declared.script.script.Script.{Script}
use Rattle.recursor_command.specs.Command.{terms_by, Resolves}
use Rattle.recursor_command.proofs.resolving.ran_script.Goals as goal

pub returns-clause-gives : goal.returns-clause-gives
returns-clause-gives c =
    let log = c.in_ok-log.log in
    let is : c.in_ok-provider.provider.script ≡ c.args.script = ap (λ (u : Upstream). u.script) c.in_ok-provider.ensures in
    subst (λ (s : Script). Gives s log) is (c.in_ok-run.ensures.vouches log c.in_ok-log.ensures.gives)

pub returns-clause-resolves : goal.returns-clause-resolves
returns-clause-resolves c =
    let log = c.in_ok-log.log in
    subst (λ (rs : List Reply). Resolves (terms_by c.args.roots.now c.args.options c.args.patience) c.args.questions.now c.args.turns.now log rs) (sym c.new-replies.ensures)
    (c.in_ok-run.ensures.resolves log (ap Some (sym c.in_ok-log.ensures.told)))
