-- The order of questions tells the same apart as their equality.
use Rattle.std.proofs.Common.{◌≡◌, ◌&&◌, ◌∙◌, Bool, true, false, refl, sym}
use Rattle.std.specs.BTreeMap.{is_at}
use Rattle.dns_core.specs.declared.message.Query.{Query}
use Rattle.dns_core.specs.contracts.message.QueryOrd.TheImpl as question_order
use Rattle.dns_core.specs.contracts.message.QueryOrd.TheImpl.Laws as laws
use Rattle.dns_core.specs.Name.{same_names}
use Rattle.std.specs.Prelude.{◌==◌}
use Rattle.kept_responses.specs.Entry.{is_same_question}

turned : (names codes : Bool) → (codes && names) ≡ (names && codes)
turned true true = refl
turned true false = refl
turned false true = refl
turned false false = refl

pub same_by_order : (a b : Query) → is_at (question_order.ghosts.cmp a) b ≡ is_same_question a b
same_by_order a b =
    sym (turned (same_names a.name b.name) (a.query_type.code == b.query_type.code && a.query_class.code == b.query_class.code) ∙ laws.matches_eq-law a b)
