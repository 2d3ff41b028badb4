use Rattle.std.proofs.Common.{◌∙◌, ℕ, List, ap}
use Rattle.std.specs.BTreeMap.{is_at}
use Rattle.std.specs.Map.{remove_entry}
use Rattle.std.specs.Ordering.{nat_cmp}
use Rattle.server_pool.specs.declared.open_lookups.open_lookup.OpenLookup.{OpenLookup}
use Rattle.server_pool.proofs.UnderNumbers.{remove_inserted}
use Rattle.server_pool.proofs.open_lookups.beginning.add_begun.Goals as goal

pub returns-in-Err-clause-err : goal.returns-in-Err-clause-err
returns-in-Err-clause-err c = (
  c.take_lookup.ensures.entries ∙ ap (λ (es : List (ℕ × OpenLookup)). remove_entry (is_at (nat_cmp c.args.number)) es) c.in_ok-add_lookup.ensures.ok
      ∙ remove_inserted c.args.number c.args.lookup c.args.lookups.now.entries c.requires.fresh,
  c.in-Err.ensures.err,
)
