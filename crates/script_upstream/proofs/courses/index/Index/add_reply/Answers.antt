use Rattle.std.proofs.Common.{[], ◌∷◌, ◌++◌, ap, ◌∙◌}
use Rattle.std.specs.HashMap.{get}
use Rattle.script_upstream.specs.Keys.{same_asking}
use Rattle.script_upstream.proofs.MapAfterPut.{places_of, used_of, same_turns, put, put_same}
use Rattle.script_upstream.proofs.courses.index.Index.add_reply.Goals as goal

pub returns-clause-places : goal.returns-clause-places
returns-clause-places c = λ a.
    let old = c.args.self.now.replies in
    put places_of _ _ (get same_asking old a) (same_asking c.args.asking a) _ _ (c.in_ok-insert.ensures.updates.0 a)
    (λ same. c.in_ok-push.ensures.ok ∙ ap (λ xs. xs ++ c.args.place ∷ []) (c.turns-turns.ensures.places ∙ ap places_of (same_turns old c.args.asking a same)))
    (λ apart. c.turns-turns.ensures.others a apart)

pub returns-clause-used : goal.returns-clause-used
returns-clause-used c = λ a.
    let old = c.args.self.now.replies in
    put_same used_of _ _ (get same_asking old a) (same_asking c.args.asking a) _ (c.in_ok-insert.ensures.updates.0 a)
    (λ same. c.turns-turns.ensures.used ∙ ap used_of (same_turns old c.args.asking a same))
    (λ apart. c.turns-turns.ensures.others a apart)
