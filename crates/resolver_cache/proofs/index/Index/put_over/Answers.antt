use Rattle.kept_responses.specs.Entry.{is_for}
use Rattle.resolver_cache.proofs.EntriesUnderQuestions.{over_list, over_placed, placed_still}
use Rattle.resolver_cache.proofs.index.Index.put_over.Goals as goal

pub returns-clause-ok : goal.returns-clause-ok
returns-clause-ok c =
    over_list (is_for c.args.entry.query) c.args.self.now.writings _ _ c.args.before c.args.number c.args.entry c.requires.own c.in_ok-add.ensures.rising c.in_ok-add.ensures.ok c.drop_entry.ensures

pub returns-clause-placed : goal.returns-clause-placed
returns-clause-placed c =
    let es = c.args.self.now.writings in
    let left = over_list (is_for c.args.entry.query) es _ _ c.args.before c.args.number c.args.entry c.requires.own c.in_ok-add.ensures.rising c.in_ok-add.ensures.ok c.drop_entry.ensures in
    over_placed es _ c.args.self.now.places c.add.new.self.places c.args.before c.args.number c.args.entry c.args.key c.requires.placed c.requires.single c.in_ok-add.ensures.rising c.requires.own c.requires.key c.in_ok-add.ensures.places left

pub returns-in_err-add-clause-placed : goal.returns-in_err-add-clause-placed
returns-in_err-add-clause-placed c =
    placed_still c.args.self.now.writings _ c.args.self.now.places c.add.new.self.places c.requires.placed c.in_err-add.ensures.err c.in_err-add.ensures.stay
