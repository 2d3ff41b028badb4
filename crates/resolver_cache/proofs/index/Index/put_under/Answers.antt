use Rattle.std.proofs.Common.{◌≡◌, ◌∙◌, Some, sym, ap, subst}
use Rattle.std.specs.Map.{values_of}
use Rattle.dns_core.specs.declared.message.Query.{Query}
use Rattle.kept_responses.specs.Entry.{is_for}
use Rattle.resolver_cache.specs.Writings.{number_of}
use Rattle.resolver_cache.proofs.EntriesUnderQuestions.{values_over}
use Rattle.resolver_cache.proofs.index.Index.put_under.Goals as goal

pub returns-in_ok-put_over-in-Some-clause-ok : goal.returns-in_ok-put_over-in-Some-clause-ok
returns-in_ok-put_over-in-Some-clause-ok c =
    let own = subst (λ (a : Query). number_of (is_for a) c.args.self.now.writings ≡ Some c.in-Some.before) c.query-2.ensures (sym c.in-Some.ensures) in
    ap values_of c.in_ok-put_over-in-Some.ensures.ok
    ∙ values_over c.args.size c.args.self.now.writings c.in-Some.before c.args.number c.args.entry c.requires.some c.in_ok-put_over-in-Some.ensures.rising own
