use Rattle.std.proofs.Common.{◌≡◌, ◌∙◌, None, sym, subst}
use Rattle.kept_responses.specs.declared.entry.Entry.{Entry}
use Rattle.kept_responses.specs.Entry.{is_for}
use Rattle.resolver_cache.specs.Writings.{number_of}
use Rattle.resolver_cache.proofs.EntriesUnderQuestions.{added_placed}
use Rattle.resolver_cache.proofs.index.Index.add_copy.Goals as goal

pub returns-clause-placed : goal.returns-clause-placed
returns-clause-placed c =
    let es = c.args.self.now.writings in
    let copy = c.in_ok-copy.copy in
    let new : number_of (is_for copy.query) es ≡ None = subst (λ (o : Entry). number_of (is_for o.query) es ≡ None) (sym c.in_ok-copy.ensures) c.requires.new in
    added_placed es _ c.args.self.now.places c.add.new.self.places c.args.number copy c.in_ok-key.key c.requires.placed new (c.in_ok-key.ensures ∙ c.query.ensures) c.in_ok-add.ensures.places c.in_ok-add.ensures.ok
