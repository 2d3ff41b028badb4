-- What a world answers is one answer.
use Rattle.std.proofs.Common.{◌≡◌, List, [], ◌∷◌, ◌++◌, Option, Some, refl, ap, subst, ◌∙◌}
use Rattle.dns_core.specs.Name.{DomainName}
use Rattle.dns_core.specs.declared.message.Query.{Query}
use Rattle.dns_core.specs.declared.record.Record.{Record}
use Rattle.resolution.specs.Answering.{with_name}
use Rattle.zone_worlds.specs.Answer.{Leads, found, after, Answers}
use Rattle.zone_worlds.specs.Answer.Leads.{arrives, goes_on}
use Rattle.zone_worlds.specs.Answer.Answers.{ends, never_ends}
use Rattle.zone_rules.specs.declared.world.World.{World}
use Rattle.zone_rules.specs.declared.world.WorldAnswer.{WorldAnswer}

-- a question's way is one: its aliases, all names on it, and the last of these
pub record OneWay (cs ds : List Record) (xs ys : List DomainName) (a b : DomainName) : Type 0 where
  pub aliases : cs ≡ ds
  pub names : xs ≡ ys
  pub last : a ≡ b

pub way-one : {w : World} {q : Query} {met : List DomainName} {n : DomainName} {cs ds : List Record} {xs ys : List DomainName} {a b : DomainName} → Leads w q met n cs xs a → Leads w q met n ds ys b → OneWay cs ds xs ys a b
way-one (arrives new e) (arrives new' e') = record { aliases = refl; names = refl; last = refl }
way-one (arrives new e) (goes_on new' e' t' more') = cc
way-one (goes_on new e t more) (arrives new' e') = cc
way-one {w = w} {q = q} {met = met} {n = n} {ys = ys} {b = b} (goes_on {t = s} {c = c} {cs = cs} new e t more) (goes_on {t = s'} {c = d} {cs = ds} new' e' t' more') =
    let one : c ≡ d = cc in
    let same : s' ≡ s = cc in
    let rest = way-one more (subst (λ (x : DomainName). Leads w q (met ++ n ∷ []) x ds ys b) same more') in
    record {
      aliases = ap (λ (r : Record). r ∷ cs) one ∙ ap (λ (rs : List Record). d ∷ rs) rest.aliases;
      names = rest.names;
      last = rest.last;
    }

-- a world answers a question once
pub answers-one : (w : World) (q : Query) (answer other : Option WorldAnswer) → Answers w q answer → Answers w q other → answer ≡ other
answers-one w q answer other a b = same a b
  where
    same : {answer other : Option WorldAnswer} → Answers w q answer → Answers w q other → answer ≡ other
    same (ends {cs = cs} {last = last} way) (ends {cs = ds} {last = end} way') =
        let one = way-one way way' in
        ap (λ (rs : List Record). Some (after rs (found w (with_name last q)))) one.aliases ∙ ap (λ (n : DomainName). Some (after ds (found w (with_name n q)))) one.last
    same (ends {cs = cs} {names = names} {last = last} way) (never_ends none) = absurd (none cs names last way)
    same (never_ends none) (ends {cs = cs} {names = names} {last = last} way) = absurd (none cs names last way)
    same (never_ends none) (never_ends none') = refl
