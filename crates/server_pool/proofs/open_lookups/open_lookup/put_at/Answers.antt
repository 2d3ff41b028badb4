use Rattle.pool_rules.specs.AnswerFilter.{denied_by}
use Rattle.std.proofs.Common.{subst}
use Rattle.pool_lookup.specs.Hearing.{IsAfter, after_outcome, after_out_of_memory}
use Rattle.pool_lookup.specs.Lookup.{LookupState}
use Rattle.server_pool.specs.OpenLookups.{moved_to}
use Rattle.server_pool.proofs.OneLookupChanged.{put_there}
use Rattle.server_pool.proofs.open_lookups.open_lookup.put_at.Goals as goal

pub returns-in-Some-clause-lookups : goal.returns-in-Some-clause-lookups
returns-in-Some-clause-lookups c = λ l here.
    let lent = c.in-Some.open.now in
    let denied = denied_by c.args.cx.now.answer_address_filter in
    let w = moved_to c.put.new.self lent in
    put_there denied c.args.tick c.args.lookup c.args.number c.args.outcome lent l c.args.lookups.now.entries _ c.put.new.self c.put.result c.in-Some.ensures.value
    (c.get_mut.follows.holds w).0
    (subst (λ (l : LookupState). IsAfter c.put.result (after_outcome denied c.args.tick c.args.number c.args.outcome l) (after_out_of_memory c.args.number c.args.tick.now c.args.outcome l) c.put.new.self)
    c.get_mut-in-Some.ensures.value c.put.ensures.lookup) here
