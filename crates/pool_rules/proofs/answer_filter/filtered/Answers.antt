use Rattle.std.proofs.Common.{◌≡◌, ◌∙◌, ap, sym, subst, Option, Bor, Ok}
use Rattle.std.specs.Option.{option_copied}
use Rattle.resolver_settings.specs.Access.{Access, denies}
use Rattle.resolution.specs.Lookups.{Answered}
use Rattle.pool_rules.specs.AnswerFilter.{filtered, denied_by}
use Rattle.pool_rules.proofs.Unfiltered.{of_one_class, unfiltered}
use Rattle.pool_rules.proofs.answer_filter.filtered.Goals as goal

pub returns-in-Some : goal.returns-in-Some
returns-in-Some c =
    let m = c.args.message in
    let q = c.args.query in
    let set = c.in-Some.set.now in
    let whole = c.in-Ok.ensures.ok in
    let family : Option (Bor Access) → Type 0 = λ o. c.allowed.result ≡ filtered q (denied_by (option_copied o)) m in
    subst family (sym c.in-Some.is)
    (c.allowed.ensures ∙ sym (of_one_class q (denies set) c.in-Ok.message (rw whole.0 whole.1)) ∙ ap (filtered q (denies set)) whole.0)

pub returns-in-None : goal.returns-in-None
returns-in-None c =
    let m = c.args.message in
    let q = c.args.query in
    let whole = c.in-Ok.ensures.ok in
    let answer : Answered = Ok c.in-Ok.message in
    let family : Option (Bor Access) → Type 0 = λ o. answer ≡ filtered q (denied_by (option_copied o)) m in
    subst family (sym c.in-None.is) (ap Ok whole.0 ∙ sym (unfiltered q m whole.1))
