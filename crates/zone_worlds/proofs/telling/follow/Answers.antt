use Rattle.std.proofs.Common.{◌≡◌, List, Some, None, subst}
use Rattle.dns_core.specs.Name.{DomainName}
use Rattle.zone_rules.specs.Aliases.{next_alias}
use Rattle.zone_worlds.proofs.WayOfAliases.{way-begins, way-kept, way-falls, way-ends}
use Rattle.zone_worlds.proofs.telling.follow.Goals as goal

pub chain-init : goal.chain-init
chain-init c = let begun = c.in_ok-way.ensures in way-begins begun.last begun.names begun.aliases

pub chain-preserved : goal.chain-preserved
chain-preserved c =
    let next = subst (λ (xs : List DomainName). next_alias c.args.zone.now xs c.chain.way.last ≡ Some c.in-Some.alias.record.now) c.as_slice.ensures.value c.in-Some.ensures.some in
    way-kept c.chain.invariant next c.in-Some.ensures.leads c.in_ok-follow.ensures.names c.in_ok-follow.ensures.last c.in_ok-follow.ensures.aliases

pub chain-smaller : goal.chain-smaller
chain-smaller c =
    let next = subst (λ (xs : List DomainName). next_alias c.args.zone.now xs c.chain.way.last ≡ Some c.in-Some.alias.record.now) c.as_slice.ensures.value c.in-Some.ensures.some in
    way-falls c.args.zone.now c.chain.way.last c.chain.way.names.items _ c.in-Some.alias.record.now next c.in_ok-follow.ensures.names

pub returns : goal.returns
returns c = way-ends c.chain.invariant (subst (λ (xs : List DomainName). next_alias c.args.zone.now xs c.chain.way.last ≡ None) c.as_slice.ensures.value c.in_default.ensures.none)
