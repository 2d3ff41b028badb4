use Rattle.std.proofs.Common.{◌≡◌, [], Option, Some, sym, ap, subst, ◌∙◌}
use Rattle.std.specs.Prelude.{IfSome, IfNone}
use Rattle.resolution.specs.Answering.{with_name}
use Rattle.zone_worlds.specs.Answer.{Leads, NoWay, found, after, Answers}
use Rattle.zone_worlds.specs.Answer.Answers.{ends, never_ends}
use Rattle.zone_worlds.specs.declared.way.Way.{Way}
use Rattle.zone_rules.specs.declared.world.WorldAnswer.{WorldAnswer}
use Rattle.zone_worlds.proofs.answer.answer_of.Goals as goal

pub returns-in_default : goal.returns-in_default
returns-in_default c = never_ends (subst (λ (o : Option Way). IfNone o (NoWay c.args.world.now c.args.query.now [] c.args.query.now.name)) c.in_default.is c.in_ok-way.ensures.none)

pub returns : goal.returns
returns c =
    let w = c.args.world.now in
    let q = c.args.query.now in
    let leads = subst (λ (o : Option Way). IfSome o (λ way. Leads w q [] q.name way.aliases.items way.names.items way.last)) c.in-Some.is c.in_ok-way.ensures.some in
    let answer : c.in_ok-answer.answer ≡ after c.in-Some.way.aliases.items (found w (with_name c.in-Some.way.last q)) = c.in_ok-answer.ensures ∙ ap (λ (a : WorldAnswer). after c.in-Some.way.aliases.items a) c.in_ok-at_end.ensures in
    subst (λ (a : WorldAnswer). Answers w q (Some a)) (sym answer) (ends leads)
