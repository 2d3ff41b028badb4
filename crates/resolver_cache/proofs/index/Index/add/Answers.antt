use Rattle.std.proofs.Common.{◌∙◌, ℕ, List, ap}
use Rattle.std.specs.BTreeMap.{is_at}
use Rattle.std.specs.Map.{remove_entry}
use Rattle.std.specs.Ordering.{nat_cmp}
use Rattle.kept_responses.specs.declared.entry.Entry.{Entry}
use Rattle.resolver_cache.proofs.ExpiriesStay.{last_taken}
use Rattle.resolver_cache.proofs.index.Index.add.Goals as goal

pub returns-in-Err-clause-err : goal.returns-in-Err-clause-err
returns-in-Err-clause-err c =
    c.drop_entry.ensures
    ∙ ap (λ (l : List (ℕ × Entry)). remove_entry (is_at (nat_cmp c.args.number)) l) c.in_ok-add.ensures.ok
    ∙ last_taken c.args.number c.args.entry c.args.self.now.writings c.requires
