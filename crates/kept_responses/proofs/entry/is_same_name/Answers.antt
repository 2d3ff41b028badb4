use Rattle.std.proofs.Common.{◌≡◌, true, ◌∙◌, sym, subst}
use Rattle.dns_core.specs.Name.{DomainName, same_names}
use Rattle.dns_core.specs.NameLaws.{same_names_equiv}
use Rattle.kept_responses.proofs.entry.is_same_name.Goals as goal

pub returns-then-eq_case : goal.returns-then-eq_case
returns-then-eq_case c =
    let left = c.args.left.now in
    let same = c.eq_case.ensures.0 c.if-eq_case.true in
    c.if-eq_case.true ∙ sym (subst (λ (n : DomainName). same_names left n ≡ true) same (same_names_equiv.refl left))
