use Rattle.std.proofs.Common.{◌∙◌, sym}
use Rattle.resolver_cache.proofs.EntriesUnderQuestions.{added_placed, single_added, new_values, room_values, placed_still}
use Rattle.resolver_cache.proofs.index.Index.put_new.Goals as goal

pub let_go-requires : goal.let_go-requires
let_go-requires c =
    let es = c.args.self.now.writings in
    record {
      placed = added_placed es _ c.args.self.now.places c.add.new.self.places c.args.number c.args.entry c.args.key c.requires.placed c.requires.new c.requires.key c.in_ok-add.ensures.places c.in_ok-add.ensures.ok;
      single = single_added c.args.size c.args.number es _ c.args.entry c.requires.within c.requires.new c.in_ok-add.ensures.ok;
    }

pub returns-in-Some-clause-ok : goal.returns-in-Some-clause-ok
returns-in-Some-clause-ok c =
    new_values c.args.size c.args.self.now.writings _ _ c.in-Some.least c.args.number c.args.entry c.requires.some c.in_ok-add.ensures.rising c.requires.new (sym c.least_of_full-least.ensures ∙ c.in-Some.is) c.in_ok-add.ensures.ok c.let_go.ensures.left

pub returns-in-None-clause-ok : goal.returns-in-None-clause-ok
returns-in-None-clause-ok c =
    room_values c.args.size c.args.self.now.writings _ c.args.number c.args.entry c.requires.some c.in_ok-add.ensures.rising c.requires.new (sym c.least_of_full-least.ensures ∙ c.in-None.is) c.in_ok-add.ensures.ok

pub returns-in-None-clause-placed : goal.returns-in-None-clause-placed
returns-in-None-clause-placed c =
    added_placed c.args.self.now.writings _ c.args.self.now.places c.add.new.self.places c.args.number c.args.entry c.args.key c.requires.placed c.requires.new c.requires.key c.in_ok-add.ensures.places c.in_ok-add.ensures.ok

pub returns-in_err-add-clause-placed : goal.returns-in_err-add-clause-placed
returns-in_err-add-clause-placed c =
    placed_still c.args.self.now.writings _ c.args.self.now.places c.add.new.self.places c.requires.placed c.in_err-add.ensures.err c.in_err-add.ensures.stay
