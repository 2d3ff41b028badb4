use Rattle.std.proofs.Common.{[], ◌∷◌, ◌++◌, ap, ◌∙◌}
use Rattle.std.specs.HashMap.{get}
use Rattle.dns_core.specs.Name.{same_names}
use Rattle.zone_worlds.proofs.RecordsUnderNames.{same_held, put_last}
use Rattle.zone_worlds.proofs.records.add_record.Goals as goal

pub returns : goal.returns
returns c = λ n.
    let old = c.args.kept.now in
    put_last _ _ (get same_names old n) (same_names c.args.name n) _ _ (c.in_ok-insert.ensures.updates.0 n)
    (λ same. c.in_ok-push.ensures.ok ∙ ap (λ xs. xs ++ c.args.r ∷ []) (c.take_held-records.ensures.held ∙ same_held old c.args.name n same))
    (λ apart. c.take_held-records.ensures.others n apart)
