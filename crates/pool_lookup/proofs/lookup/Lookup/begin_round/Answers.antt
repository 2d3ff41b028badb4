use Rattle.std.proofs.Common.{◌≡◌, ◌≤◌, [], sym, subst}
use Rattle.pool_rules.specs.RetryQueue.{may_ask}
use Rattle.pool_lookup.specs.Lookup.{LookupState}
use Rattle.pool_lookup.proofs.QueueStandsByLists.{none_dealt_left}
use Rattle.pool_lookup.proofs.lookup.Lookup.begin_round.Goals as goal

pub deal_out-requires-clause-few : goal.deal_out-requires-clause-few
deal_out-requires-clause-few c = subst (λ (l : LookupState). l.queue.sleeps ≤ 4) (sym c.deal_round.ensures) c.requires.can.few

pub deal_out-requires-clause-none : goal.deal_out-requires-clause-none
deal_out-requires-clause-none c =
    let l = c.args.self.now in
    subst (λ (x : LookupState). x.ready ≡ [] → x.queue.waiting ≡ []) (sym c.deal_round.ensures) (λ none. none_dealt_left l.concurrency (may_ask l.queue.udp_off) l.queue.waiting c.requires.can.some none)
