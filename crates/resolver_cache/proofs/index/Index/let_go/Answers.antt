use Rattle.std.proofs.Common.{◌≡◌, ◌∙◌, ℕ, List, None, cond, sym, subst, refl}
use Rattle.dns_core.specs.declared.message.Query.{Query}
use Rattle.kept_responses.specs.declared.entry.Entry.{Entry}
use Rattle.kept_responses.specs.Entry.{is_same_question}
use Rattle.resolver_cache.specs.Index.{number_at, ArePlaced}
use Rattle.resolver_cache.proofs.ByNumber.{none_gone}
use Rattle.resolver_cache.proofs.EntriesUnderQuestions.{placed_gone, placed_still}
use Rattle.resolver_cache.proofs.index.Index.let_go.Goals as goal

pub returns-in-Some-clause-placed : goal.returns-in-Some-clause-placed
returns-in-Some-clause-placed c =
    let es = c.args.self.now.writings in
    let displaced =
    subst (λ (a : Query). (q : Query) → number_at c.displace.new.places q ≡ cond (is_same_question a q) None (number_at c.args.self.now.places q)) c.query.ensures c.displace.ensures
    in
    subst (λ (l : List (ℕ × Entry)). ArePlaced l c.displace.new.places) (sym c.in-Some.ensures.left)
    (placed_gone es c.args.self.now.places c.displace.new.places c.args.number c.in-Some.gone c.requires.placed c.requires.single (sym c.in-Some.ensures.gone) displaced)

pub returns-in-None-clause-placed : goal.returns-in-None-clause-placed
returns-in-None-clause-placed c =
    let es = c.args.self.now.writings in
    placed_still es _ c.args.self.now.places c.args.self.now.places c.requires.placed (c.in-None.ensures.left ∙ none_gone es c.args.number (sym c.in-None.ensures.gone)) (λ q. refl)
