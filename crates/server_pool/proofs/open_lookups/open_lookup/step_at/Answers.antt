use Rattle.std.proofs.Common.{◌≡◌, OnErr, subst}
use Rattle.pool_lookup.specs.Giving.{Halts}
use Rattle.pool_lookup.specs.Lookup.{LookupState}
use Rattle.pool_lookup.specs.Rounds.{started}
use Rattle.server_pool.specs.OpenLookups.{moved_to}
use Rattle.server_pool.proofs.OneLookupChanged.{halted_there}
use Rattle.server_pool.proofs.open_lookups.open_lookup.step_at.Goals as goal

pub returns-in-Some-clause-err : goal.returns-in-Some-clause-err
returns-in-Some-clause-err c = λ l here.
    let lent = c.in-Some.open.now in
    let w = moved_to c.next.new.self lent in
    let same = c.get_mut-in-Some.ensures.value in
    halted_there c.args.lookup c.args.tick.now lent l c.args.lookups.now.entries _ c.args.table.now c.next.new.table c.next.new.self c.next.result c.in-Some.ensures.value
    (c.get_mut.follows.holds w).0
    (subst (λ (l : LookupState). OnErr c.next.result (c.next.new.self ≡ started c.args.tick.now l)) same c.next.ensures.err)
    (subst (λ (l : LookupState). OnErr c.next.result (Halts (started c.args.tick.now l) c.args.table.now c.next.new.table)) same c.next.ensures.halted) here
