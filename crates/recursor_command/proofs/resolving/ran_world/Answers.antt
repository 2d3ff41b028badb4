use Rattle.std.proofs.Common.{◌≡◌, List, Some, ap, sym, subst}
use Rattle.recursor_types.specs.declared.reply.Reply.{Reply}
use Rattle.world_upstream.specs.Giving.{Gives}
use Rattle.world_upstream.specs.Upstream.{Upstream}
use Rattle.zone_rules.specs.declared.world.World.{World}
use Rattle.recursor_command.specs.Command.{terms_by, Resolves}
use Rattle.recursor_command.proofs.resolving.ran_world.Goals as goal

pub returns-clause-gives : goal.returns-clause-gives
returns-clause-gives c =
    let log = c.in_ok-log.log in
    let is : c.in_ok-provider.provider.world ≡ c.args.world = ap (λ (u : Upstream). u.world) c.in_ok-provider.ensures in
    subst (λ (w : World). Gives w log) is (c.in_ok-run.ensures.vouches log c.in_ok-log.ensures.gives)

pub returns-clause-resolves : goal.returns-clause-resolves
returns-clause-resolves c =
    let log = c.in_ok-log.log in
    subst (λ (rs : List Reply). Resolves (terms_by c.args.roots.now c.args.options c.args.patience) c.args.questions.now c.args.turns.now log rs) (sym c.new-replies.ensures)
    (c.in_ok-run.ensures.resolves log (ap Some (sym c.in_ok-log.ensures.told)))
