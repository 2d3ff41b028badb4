use Rattle.std.proofs.Common.{◌∙◌, List, [], ◌∷◌, length, length-append, ap, sym, subst, refl, arith}
use Rattle.pool_rules.specs.RetryQueue.{QueueState, may_ask}
use Rattle.pool_rules.specs.declared.pool_server.PoolServer.{PoolServer}
use Rattle.pool_lookup.proofs.RoundIsDealt.{IsDealing, none_yet, one_more, none_left, all_dealt, fewer}
use Rattle.pool_lookup.proofs.rounds.deal.Goals as goal

pub dealing-init : goal.dealing-init
dealing-init c =
    let count = ap (λ (xs : List PoolServer). length xs) c.requires.none in
    let room = c.requires.room in
    record {
      deals = subst (λ (xs : List PoolServer). IsDealing c.args.most 0 c.args.queue.now c.args.queue.now xs) (sym c.requires.none) (none_yet c.args.most c.args.queue.now);
      capacity = refl;
      fits = omega (arith, count, room);
    }

pub push_back_reserved-requires : goal.push_back_reserved-requires
push_back_reserved-requires c =
    let less = fewer (may_ask c.dealing.queue.udp_off) c.dealing.queue.waiting c.in-Some.candidate (sym c.in-Some.ensures.taken) in
    let fits = c.dealing.invariant.fits in
    let size = c.dealing.ready.ok.0 in
    omega (arith, less, fits, size)

pub dealing-preserved : goal.dealing-preserved
dealing-preserved c =
    let less = fewer (may_ask c.dealing.queue.udp_off) c.dealing.queue.waiting c.in-Some.candidate (sym c.in-Some.ensures.taken) in
    let left = ap (λ (p : QueueState). length p.waiting) c.in-Some.ensures.plan in
    let grown = ap (λ (xs : List PoolServer). length xs) c.push_back_reserved.ensures.items in
    let more = length-append c.dealing.ready.items (c.in-Some.candidate ∷ []) in
    let fits = c.dealing.invariant.fits in
    record {
      deals =
          one_more c.args.most c.dealing.counter c.args.queue.now c.dealing.queue c.take.new.self c.dealing.ready.items c.push_back_reserved.new.self.items c.in-Some.candidate c.dealing.invariant.deals
          (omega arith) (sym c.in-Some.ensures.taken) c.in-Some.ensures.plan c.push_back_reserved.ensures.items;
      capacity = c.push_back_reserved.ensures.capacity ∙ c.dealing.invariant.capacity;
      fits = omega (arith, less, left, grown, more, fits);
    }

pub returns-in-None-clause-dealt : goal.returns-in-None-clause-dealt
returns-in-None-clause-dealt c =
    (none_left c.args.most c.dealing.counter c.args.queue.now c.dealing.queue c.take.new.self c.dealing.ready.items c.dealing.invariant.deals (omega arith) (sym c.in-None.ensures.taken) c.in-None.ensures.plan).0

pub returns-in-None-clause-queue : goal.returns-in-None-clause-queue
returns-in-None-clause-queue c =
    (none_left c.args.most c.dealing.counter c.args.queue.now c.dealing.queue c.take.new.self c.dealing.ready.items c.dealing.invariant.deals (omega arith) (sym c.in-None.ensures.taken) c.in-None.ensures.plan).1

pub returns-clause-dealt : goal.returns-clause-dealt
returns-clause-dealt c = (all_dealt c.args.most c.dealing.counter c.args.queue.now c.dealing.queue c.dealing.ready.items c.dealing.invariant.deals (omega arith)).0

pub returns-clause-queue : goal.returns-clause-queue
returns-clause-queue c = (all_dealt c.args.most c.dealing.counter c.args.queue.now c.dealing.queue c.dealing.ready.items c.dealing.invariant.deals (omega arith)).1
