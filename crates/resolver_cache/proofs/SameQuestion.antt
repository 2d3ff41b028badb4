-- Two entries for one question are for the same questions.
use Rattle.std.proofs.Common.{◌≡◌, true, ◌∙◌, sym}
use Rattle.std.specs.Cmp.{IsEquivalence, on_equiv, and_equiv, nat_eq_equiv}
use Rattle.dns_core.specs.NameLaws.{same_names_equiv}
use Rattle.dns_core.specs.declared.message.Query.{Query}
use Rattle.kept_responses.specs.declared.entry.Entry.{Entry}
use Rattle.kept_responses.specs.Entry.{is_same_question, is_for}

pub same_question_equiv : IsEquivalence is_same_question
same_question_equiv =
    and_equiv (and_equiv (on_equiv (λ q. q.query_type.code) nat_eq_equiv) (on_equiv (λ q. q.query_class.code) nat_eq_equiv)) (on_equiv (λ q. q.name) same_names_equiv)

pub for_the_same : (q : Query) (e : Entry) → is_for q e ≡ true → (o : Entry) → is_for q o ≡ is_for e.query o
for_the_same q e h o =
    same_question_equiv.symm o.query q
    ∙ sym (same_question_equiv.congr e.query q o.query h)
    ∙ same_question_equiv.symm e.query o.query
