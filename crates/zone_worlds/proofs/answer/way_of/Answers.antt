use Rattle.std.proofs.Common.{◌≡◌, List, [], ◌∷◌, ◌++◌, Option, Some, None, true, false, sym, subst}
use Rattle.std.specs.Prelude.{IfSome, IfNone}
use Rattle.std.specs.List.{list_any}
use Rattle.dns_core.specs.Name.{DomainName, same_names}
use Rattle.dns_core.specs.declared.record.Record.{Record}
use Rattle.resolution.specs.Records.{cname_target}
use Rattle.zone_worlds.specs.Answer.{next_alias_for, Leads}
use Rattle.zone_rules.specs.declared.choosing.Alias.{Alias}
use Rattle.zone_worlds.proofs.WayOfAliases.{path-begins, path-kept, path-falls, path-repeats, path-ends}
use Rattle.zone_worlds.proofs.answer.way_of.Goals as goal

pub way-init : goal.way-init
way-init c = let begun = c.in_ok-way.ensures in path-begins _ _ _ _ _ begun.last begun.names begun.aliases

pub way-preserved : goal.way-preserved
way-preserved c =
    let some = subst (λ (o : Option Alias). IfSome o (λ alias. next_alias_for c.args.world.now c.args.query.now c.as_slice.result.now c.way.way.last ≡ Some alias.record.now)) c.in-Some.is c.in_ok-alias.ensures.some in
    let next = subst (λ (xs : List DomainName). next_alias_for c.args.world.now c.args.query.now xs c.way.way.last ≡ Some c.in-Some.alias.record.now) c.as_slice.ensures.value some in
    let leads = subst (λ (o : Option Alias). IfSome o (λ alias. cname_target alias.record.now ≡ Some alias.target.now)) c.in-Some.is c.in_ok-alias.ensures.leads in
    path-kept c.way.invariant next leads c.in_ok-follow.ensures.names c.in_ok-follow.ensures.last c.in_ok-follow.ensures.aliases

pub way-smaller : goal.way-smaller
way-smaller c =
    let some = subst (λ (o : Option Alias). IfSome o (λ alias. next_alias_for c.args.world.now c.args.query.now c.as_slice.result.now c.way.way.last ≡ Some alias.record.now)) c.in-Some.is c.in_ok-alias.ensures.some in
    let next = subst (λ (xs : List DomainName). next_alias_for c.args.world.now c.args.query.now xs c.way.way.last ≡ Some c.in-Some.alias.record.now) c.as_slice.ensures.value some in
    path-falls c.args.world.now c.args.query.now c.way.way.last c.way.way.names.items _ c.in-Some.alias.record.now next c.in_ok-follow.ensures.names

pub returns-then-is_met-clause-none : goal.returns-then-is_met-clause-none
returns-then-is_met-clause-none c =
    let again : list_any (same_names c.way.way.last) c.way.way.names.items ≡ true = let a = c.is_met.ensures in let b = c.as_slice-2.ensures.value in let t = c.if-is_met.true in cc in
    path-repeats _ _ _ _ _ c.way.invariant again

pub returns-clause-some : goal.returns-clause-some
returns-clause-some c =
    let w = c.args.world.now in
    let q = c.args.query.now in
    let new : list_any (same_names c.way.way.last) c.way.way.names.items ≡ false = let a = c.is_met.ensures in let b = c.as_slice-2.ensures.value in let t = c.if-is_met.false in cc in
    let ended = subst (λ (o : Option Alias). IfNone o (next_alias_for w q c.as_slice.result.now c.way.way.last ≡ None)) c.in_default.is c.in_ok-alias.ensures.none in
    let none = subst (λ (xs : List DomainName). next_alias_for w q xs c.way.way.last ≡ None) c.as_slice.ensures.value ended in
    let ends = path-ends w q c.way.way.last c.way.way.names.items c.way.way.aliases.items c.way.invariant new none in
    subst (λ (x : DomainName). Leads w q [] q.name c.end.new.self.aliases.items c.end.new.self.names.items x) (sym c.in_ok-end.ensures.last)
    (subst (λ (xs : List DomainName). Leads w q [] q.name c.end.new.self.aliases.items xs c.way.way.last) (sym c.in_ok-end.ensures.names)
    (subst (λ (rs : List Record). Leads w q [] q.name rs (c.way.way.names.items ++ c.way.way.last ∷ []) c.way.way.last) (sym c.in_ok-end.ensures.aliases) ends))
