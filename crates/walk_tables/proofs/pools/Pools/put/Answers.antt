use Rattle.walk_tables.proofs.Names.{◌≡◌, ◌∙◌, ℕ, max, inr, sym, refl, ap, subst, Some, None, Ok, Result, arith, rules, Err, option_copied, NoMemory, After, open_at, IsOutcomeOf, closing_of, seen_with, LogView, seen_at, CacheHolds, remembered, Took, TablesHold, telling_at, later-put, err-last, err-is, was-put, cache-later}
use Rattle.server_core.specs.declared.orders.order.After.TheVariants.{Late}
use Rattle.walk_tables.proofs.LookupOrders.{late-other}
use Rattle.walk_lookup.proofs.OpenIsNotLate.{open-late}
use Rattle.walk_tables.proofs.PoolsAdvance.{tables-later}
use Rattle.walk_tables.proofs.LookupsAfterStep.{pools-came}
use Rattle.walk_tables.proofs.OutcomeInCache.{took-came, comes-has, telling-noted, told-kept}
use Rattle.walk_tables.proofs.pools.Pools.put.Goals as goal

-- what is late changes nothing
pub returns-in_default-clause-holds : goal.returns-in_default-clause-holds
returns-in_default-clause-holds c view longer put h =
    tables-later view _ (later-put view c.args.tick (option_copied c.args.waits) c.args.outcome _ longer put) c.args.cache.now c.args.self.now h

pub returns-in_default-given_for-clause-holds : goal.returns-in_default-given_for-clause-holds
returns-in_default-given_for-clause-holds c view longer put h =
    tables-later view _ (later-put view c.args.tick (option_copied c.args.waits) c.args.outcome _ longer put) c.args.cache.now c.args.self.now h

-- where memory ran out at the pools
pub returns-in_err-after-clause-holds : goal.returns-in_err-after-clause-holds
returns-in_err-after-clause-holds c view longer put h =
    let waits = option_copied c.args.waits in
    let o = c.args.outcome in
    let r = c.from_residual.result in
    let is = c.from_residual.ensures.0 in
    let fault = err-is view c.args.tick waits o r _ longer is put in
    rw (err-last waits o r is)
    (let tables : TablesHold (seen_with view c.args.tick waits o (Err _) longer) c.args.cache.now c.take.new.self = record {
      cache = cache-later view _ (later-put view c.args.tick waits o _ longer fault) c.args.cache.now h.cache;
      pools = c.in_err-after.ensures.holds view longer fault h.pools;
    } in
    tables)

-- where it ran out for what the lookup came to
pub returns-in_err-came-clause-holds : goal.returns-in_err-came-clause-holds
returns-in_err-came-clause-holds c view longer put h =
    let waits = option_copied c.args.waits in
    let o = c.args.outcome in
    let fault = c.from_residual-in_err-came in
    let did : Result After NoMemory = Ok c.in_ok-after.after in
    let was = was-put view c.args.tick waits o did fault.result longer fault.ensures.0 put in
    let middle = seen_with view c.args.tick waits o did was.by in
    let fewer = was.last in
    let tables : TablesHold middle c.args.cache.now c.take.new.self = record {
      cache = cache-later view middle (later-put view c.args.tick waits o did was.by was.put) c.args.cache.now h.cache;
      pools = c.in_ok-after.ensures.holds view was.by was.put h.pools;
    } in
    let last : LogView = seen_at view.policy (max view.greatest (closing_of waits o)) c.args.tick.now longer in
    rw (err-last waits o fault.result fault.ensures.0, c.in_err-came.ensures.err)
    (tables-later middle last (record { policy = refl; patience = omega arith; greatest = omega (arith, fewer); moment = omega arith; extends = was.extends }) c.args.cache.now c.take.new.self tables)

pub returns-clause-takes : goal.returns-clause-takes
returns-clause-takes c =
    let n = c.in-Some.lookup in
    let mid = c.take.new.self in
    let new = c.keep_came.new.self in
    let given = rw c.in-Some-given_for.is at c.given_for.ensures.some in
    inr (record {
      n = n;
      took = took-came c.args.self.now mid new n c.args.number c.args.outcome c.args.tick c.in_ok-after.after c.in_ok-came.came c.keep_came.ensures
          (subst (λ (k : ℕ). Took c.args.self.now mid n k c.args.outcome c.args.tick c.in_ok-after.after) given.0 c.in_ok-after.ensures.took);
      writes = c.in_ok-came.ensures.ok ∙ ap (remembered c.args.cache.now) (telling-noted n c.in_ok-came.came mid new c.keep_came.ensures);
    })

pub returns-clause-holds : goal.returns-clause-holds
returns-clause-holds c view longer put h =
    let n = c.in-Some.lookup in
    let mid = c.take.new.self in
    let waits = option_copied c.args.waits in
    let did : Result After NoMemory = Ok c.in_ok-after.after in
    let next = seen_with view c.args.tick waits c.args.outcome did longer in
    let pools = c.in_ok-after.ensures.holds view longer put h.pools in
    let cache = cache-later view next (later-put view c.args.tick waits c.args.outcome did longer put) c.args.cache.now h.cache in
    record {
      cache = subst (CacheHolds next) (sym c.in_ok-came.ensures.ok) (told-kept next mid n pools c.args.cache.now (telling_at mid n) refl cache);
      pools = pools-came next n c.in_ok-came.came mid c.keep_came.new.self c.keep_came.ensures (comes-has mid n c.in_ok-came.came c.in_ok-came.ensures.comes) pools;
    }

-- ---- which outcomes are late

pub returns-in_default-given_for-clause-late : goal.returns-in_default-given_for-clause-late
returns-in_default-given_for-clause-late c =
    let pools = c.args.self.now in
    let there : open_at c.args.number pools.shared ≡ Some c.in-Some.lookup = cc in
    let none : c.given_for.result ≡ None = search rules in
    (λ same. late-other pools c.args.number c.in-Some.lookup (option_copied c.args.waits) c.args.outcome there (c.given_for.ensures.none none), λ none. refl)

pub returns-clause-late : goal.returns-clause-late
returns-clause-late c =
    let pools = c.args.self.now in
    let number = c.args.number in
    let took = c.in_ok-after.ensures.took in
    let given = rw c.in-Some-given_for.is at c.given_for.ensures.some in
    let there : open_at number pools.shared ≡ Some c.in-Some.lookup = cc in
    let outcome : IsOutcomeOf pools number (option_copied c.args.waits) c.args.outcome =
    record { n = c.in-Some.lookup; open_there = there; given = c.in-Some-given_for.given; named = given.0; is = given.1 } in (
      λ same of. open-late c.args.tick.patience c.in-Some-given_for.given.number c.args.outcome took.lookup.lookup took.opens.waits (sym took.put.did ∙ (let late : c.in_ok-after.after ≡ Late = cc in late)),
      λ none. absurd (none outcome),
    )
