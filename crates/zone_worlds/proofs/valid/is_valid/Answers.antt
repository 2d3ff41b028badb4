use Rattle.std.proofs.Common.{[], List, Option, sym, subst, ◌∙◌}
use Rattle.std.specs.Prelude.{IfSome, IfNone}
use Rattle.dns_core.specs.Name.{DomainName}
use Rattle.zone_worlds.specs.Answer.{Leads, NoWay}
use Rattle.zone_rules.specs.Short.{IsShort}
use Rattle.zone_worlds.specs.declared.way.Way.{Way}
use Rattle.zone_worlds.proofs.OneAnswer.{way-one}
use Rattle.zone_worlds.proofs.valid.is_valid.Goals as goal

pub returns-then-not-is_askable : goal.returns-then-not-is_askable
returns-then-not-is_askable c = ((λ e. cc), (λ v. let a = v.askable in let w = c.is_askable.ensures in let n = c.if-not-is_askable.true in cc))

pub returns-in_default : goal.returns-in_default
returns-in_default c =
    let none = subst (λ (o : Option Way). IfNone o (NoWay c.args.world.now c.args.query.now [] c.args.query.now.name)) c.in_default.is c.in_ok-way.ensures.none in
    ((λ e. cc), (λ v. absurd (none v.aliases v.names v.last v.ends)))

pub returns : goal.returns
returns c =
    let leads = subst (λ (o : Option Way). IfSome o (λ way. Leads c.args.world.now c.args.query.now [] c.args.query.now.name way.aliases.items way.names.items way.last)) c.in-Some.is c.in_ok-way.ensures.some in (
      (λ e. record {
        askable = let w = c.is_askable.ensures in let n = c.if-not-is_askable.false in cc;
        aliases = c.in-Some.way.aliases.items;
        names = c.in-Some.way.names.items;
        last = c.in-Some.way.last;
        ends = leads;
        short = subst (λ (names : List DomainName). IsShort names c.args.recursion_limit c.args.ns_recursion_limit) c.as_slice.ensures.value (c.is_short.ensures.0 e);
      }),
      (λ v. c.is_short.ensures.1 (subst (λ (names : List DomainName). IsShort names c.args.recursion_limit c.args.ns_recursion_limit) ((way-one v.ends leads).names ∙ sym c.as_slice.ensures.value) v.short)),
    )
