use Rattle.std.proofs.Common.{◌≡◌, ◌∙◌, ℕ, Some, sym}
use Rattle.std.specs.Map.Iter.{deref_pair}
use Rattle.std.proofs.lemmas.Map.Views.{All-turn}
use Rattle.server_pool.specs.OpenLookups.{under}
use Rattle.server_pool.specs.declared.open_lookups.open_lookup.OpenLookup.{OpenLookup}
use Rattle.server_pool.proofs.open_lookups.open_lookup.open_for.Goals as goal

pub returns-then-is_for-clause-there : goal.returns-then-is_for-clause-there
returns-then-is_for-clause-there c =
    let gives = c.into_iter-number-iterator.ensures.into_iter_gives in
    let found = All-turn (deref_pair {K = ℕ} {X = OpenLookup}) (λ (e : ℕ × OpenLookup). under e.0 c.args.lookups.now.entries ≡ Some e.1) _ _ _ _ _ _ _ gives.6 gives.0 c.loop-number.yielded_by c.in-Some.is c.next.ensures.steps in
    (c.in-Some.open.now, found, sym c.is_for.ensures ∙ c.if-is_for.true)
