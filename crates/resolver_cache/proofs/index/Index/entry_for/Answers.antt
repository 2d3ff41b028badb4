use Rattle.std.proofs.Common.{◌∙◌, sym}
use Rattle.resolver_cache.proofs.EntriesUnderQuestions.{found_by, found_none}
use Rattle.resolver_cache.proofs.index.Index.entry_for.Goals as goal

pub returns-in-Some : goal.returns-in-Some
returns-in-Some c =
    c.get-in-Some.ensures.entry
    ∙ found_by c.args.query.now c.args.self.now.writings c.args.self.now.places c.in-Some.number.now c.requires c.get-in-Some.ensures.rising (sym c.in-Some.ensures.value)

pub returns-in-None : goal.returns-in-None
returns-in-None c = sym (found_none c.args.query.now c.args.self.now.writings c.args.self.now.places c.requires (sym c.in-None.ensures.value))
